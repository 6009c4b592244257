-- The inserts that records are split into: calls of `datastore_upsert` (CKAN 2.10, DataStore) with pieces of them.
use Rattle.std.specs.Prelude.{ℕ, nat_le, nat_lt, Bool, true, false, not, ◌&&◌, ◌||◌, if◌then◌else◌, List, [], ◌∷◌, ◌++◌}
use Rattle.std.specs.Prelude.{length, map, codes, Option, Some, None, Result, Ok, Err}
use Rattle.portal_base.specs.Json.{json_text}
use Rattle.portal_base.specs.declared.json_value.Json.{Json}
use Rattle.portal_base.specs.declared.json_value.Json as json
use Rattle.table_schema.specs.Field.{FieldValue}
use Rattle.typed_csv.specs.Rows.{Rows, rows_of}
use Rattle.typed_csv.specs.declared.fault.LoadFault.{LoadFault}
use Rattle.row_inserts.specs.Records.{record_of}

-- ---- one insert

-- the body of the insert of these records into the table of the resource that the text names
abbrev pub insert_body : List ℕ → List Json → Json
insert_body resource records = json.Map (
    (codes "method", json.Text (codes "insert"))
    ∷ (codes "records", json.List records)
    ∷ (codes "resource_id", json.Text resource)
    ∷ [])

-- the length of its compact text in bytes
abbrev pub insert_size : List ℕ → List Json → ℕ
insert_size resource records = length (json_text (insert_body resource records))

-- the maximum count of records in an insert
abbrev pub max_records : ℕ
max_records = 500

-- the maximum length of an insert's body, in bytes; an insert of one record may be longer
abbrev pub max_bytes : ℕ
max_bytes = 200000

abbrev pub is_empty : List Json → Bool
is_empty [] = true
is_empty (first ∷ more) = false

-- The records fit one insert: they are few enough, and the body isn't too long.
abbrev pub fit : List ℕ → List Json → Bool
fit resource records = nat_le (length records) max_records && nat_le (insert_size resource records) max_bytes

-- The piece is full: it has 500 records, or it has some and its body is too long, as that of one long record may be. An
-- empty piece is never full, however long the text is that names the resource.
abbrev pub is_full : List ℕ → List Json → Bool
is_full resource piece =
    not (is_empty piece)
    && (nat_le max_records (length piece) || nat_lt max_bytes (insert_size resource piece))

-- ---- all of them

-- The pieces that records are split into after the records of a first piece. A piece takes the next record if they fit
-- together, and an empty piece takes any.
abbrev pub pieces_after : List ℕ → List Json → List Json → List (List Json)
pieces_after resource piece [] = if is_empty piece then [] else piece ∷ []
pieces_after resource piece (next ∷ records) =
    if is_empty piece || fit resource (piece ++ next ∷ [])
    then pieces_after resource (piece ++ next ∷ []) records
    else piece ∷ pieces_after resource (next ∷ []) records

-- the complete pieces: all but the last one, and that too if it is full
abbrev pub complete_pieces : List ℕ → List (List Json) → List (List Json)
complete_pieces resource [] = []
complete_pieces resource (piece ∷ []) = if is_full resource piece then piece ∷ [] else []
complete_pieces resource (piece ∷ next ∷ pieces) = piece ∷ complete_pieces resource (next ∷ pieces)

-- pieces, and the error that ends them, if one does
pub record Pieces : Type 0 where
  pub pieces : List (List Json)
  pub fault : Option LoadFault

abbrev pub no_pieces : Pieces
no_pieces = record { pieces = []; fault = None }

abbrev pub faulty : LoadFault → Pieces
faulty why = record { pieces = []; fault = Some why }

-- a piece followed by others
abbrev pub before : List Json → Pieces → Pieces
before piece more = record { pieces = piece ∷ more.pieces; fault = more.fault }

-- The pieces that are sent: all of them, or the complete ones if an error ends the rows.
abbrev pub sent_pieces : List ℕ → List (List Json) → Option LoadFault → List (List Json)
sent_pieces resource pieces None = pieces
sent_pieces resource pieces (Some why) = complete_pieces resource pieces

-- The pieces of rows after the records of a first piece. A piece that would contain a row with an error isn't sent.
abbrev pub pieces_of_rows : List ℕ → List FieldValue → List Json → Rows → Pieces
pieces_of_rows resource fields piece rows = record {
  pieces = sent_pieces resource (pieces_after resource piece (map (record_of fields) rows.rows)) rows.fault;
  fault = rows.fault;
}

abbrev pub pieces_read : List ℕ → List FieldValue → Result Rows LoadFault → Result Pieces LoadFault
pieces_read resource fields (Ok rows) = Ok (pieces_of_rows resource fields [] rows)
pieces_read resource fields (Err why) = Err why

-- The pieces of the rows of a text of CSV (RFC 4180) by a schema with these fields, or the error of its header.
abbrev pub inserts_of : List ℕ → List FieldValue → List ℕ → Result Pieces LoadFault
inserts_of resource fields text = pieces_read resource fields (rows_of fields text)
