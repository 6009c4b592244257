-- The value of a piece of records, as contracts see it, and the effects of its calls.
use Rattle.std.specs.Prelude.{◌≡◌, ℕ, Bool, true, false, ◌||◌, List, [], ◌∷◌, ◌++◌, Option, Some, None}
use Rattle.portal_base.specs.declared.json_value.Json.{Json}
use Rattle.row_inserts.specs.Inserts.{fit, insert_body, insert_size, is_empty}
use Rattle.row_inserts.specs.declared.piece.Insert.{Insert}

-- the text that names the resource, and the records that wait
pub record PieceValue : Type 0 where
  pub resource : List ℕ
  pub records : List Json

-- The sizes are those of the insert of these records, and of one without records.
pub record IsSized (resource : List ℕ) (records : List Json) (size empty_size : ℕ) : Type 0 where
  pub with_records : size ≡ insert_size resource records
  pub without_records : empty_size ≡ insert_size resource []

abbrev pub piece_with : List ℕ → List Json → PieceValue
piece_with resource records = record { resource = resource; records = records }

-- The piece takes this record. An empty piece takes any.
abbrev pub takes : PieceValue → Json → Bool
takes piece added = is_empty piece.records || fit piece.resource (piece.records ++ added ∷ [])

-- the insert of these records
abbrev pub IsInsertOf : List ℕ → List Json → Insert → Type 0
IsInsertOf resource records insert =
    (insert.body ≡ insert_body resource records) × (insert.size ≡ insert_size resource records)

-- The record was appended; or it didn't fit, the records before it were returned as their insert, and it is the first
-- of the next one.
abbrev pub Puts : PieceValue → Json → Option Insert → PieceValue → Type 0
Puts old added None new =
    (takes old added ≡ true) × (new ≡ piece_with old.resource (old.records ++ added ∷ []))
Puts old added (Some insert) new =
    (takes old added ≡ false) × IsInsertOf old.resource old.records insert
    × (new ≡ piece_with old.resource (added ∷ []))

-- No record is left, and the records before are returned as their insert, if there were any.
abbrev pub Clears : PieceValue → Option Insert → PieceValue → Type 0
Clears old None new = (old.records ≡ []) × (new ≡ old)
Clears old (Some insert) new =
    (is_empty old.records ≡ false) × IsInsertOf old.resource old.records insert × (new ≡ piece_with old.resource [])
