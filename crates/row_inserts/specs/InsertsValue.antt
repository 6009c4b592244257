-- The value of `Inserts`, as contracts see it, and the results of its calls.
use Rattle.std.specs.Prelude.{◌≡◌, ◌⊎◌, ◌≤◌, ◌^◌, ℕ, Bool, true, false, List, Option, Some, None, option_map}
use Rattle.std.specs.Prelude.{IfSome, Result, Ok, Err}
use Rattle.portal_base.specs.declared.json_value.Json.{Json}
use Rattle.table_schema.specs.Field.{FieldValue}
use Rattle.typed_csv.specs.Faults.{IsOutside}
use Rattle.typed_csv.specs.LoaderValue.{LoaderValue}
use Rattle.typed_csv.specs.ReaderValue.{IsCounted}
use Rattle.typed_csv.specs.declared.fault.LoadFault.{LoadFault}
use Rattle.typed_csv.specs.declared.fault.LoadFault.TheVariants as fault
use Rattle.typed_csv.specs.declared.loader.Stage.TheVariants as stage
use Rattle.row_inserts.specs.Inserts.{Pieces, before, faulty, inserts_of, no_pieces, pieces_of_rows}
use Rattle.row_inserts.specs.Piece.{PieceValue, IsInsertOf}
use Rattle.row_inserts.specs.Records.{columns_of}
use Rattle.row_inserts.specs.declared.piece.Insert.{Insert}
use Rattle.row_records.specs.declared.columns.Column.{Column}

-- The inserts of a source: the text that names the resource, the source as far as it was read, the count of bytes that
-- the source gave, and whether an error was returned. If the source is observable, `remaining` has the remaining pieces
-- and the error that ends them.
pub record InsertsValue (S : Type 0) : Type 0 where
  pub resource : List ℕ
  pub source : S
  pub given : ℕ
  pub is_spent : Bool
  pub remaining : Option Pieces

-- the inserts of a loader and of the piece that waits
abbrev pub inserts_value : {S : Type 0} → LoaderValue S → PieceValue → Bool → InsertsValue S
inserts_value loading piece is_spent = record {
  resource = piece.resource;
  source = loading.source;
  given = loading.given;
  is_spent = is_spent;
  remaining = option_map (pieces_of_rows piece.resource loading.fields piece.records) loading.remaining;
}

-- The columns are those of the loader's schema, the inserts of a spent loader are spent, and inserts that aren't spent
-- received no more bytes than a source may give.
pub record IsConsistentInserts {S : Type 0} (columns : List Column) (loading : LoaderValue S)
    (is_spent : Bool) : Type 0 where
  pub columns_are : columns ≡ columns_of loading.fields
  pub spent : loading.stage ≡ stage.Spent → is_spent ≡ true
  pub within : is_spent ≡ false → loading.given ≤ 2 ^ 40

-- The source gave some bytes in this call, and they were counted.
abbrev pub IsGiven : {S : Type 0} → (S → Option (List ℕ)) → InsertsValue S → InsertsValue S → Type 0
IsGiven to_come old new = IsCounted (to_come old.source) old.given (to_come new.source) new.given

-- The remaining pieces are those of the text, if it is observable.
abbrev pub Begins : List ℕ → List FieldValue → Option (List ℕ) → Option Pieces → Type 0
Begins resource fields observed remaining = option_map (inserts_of resource fields) observed ≡ option_map Ok remaining

-- The error of starting: that of the source or of memory, or that of the text's header, if the text is observable.
abbrev pub RefusesHeader : List ℕ → List FieldValue → Option (List ℕ) → LoadFault → Type 0
RefusesHeader resource fields observed why =
    IsOutside why ⊎ IfSome observed (λ text. inserts_of resource fields text ≡ Err why)

-- The remaining pieces start as the call returns: with the piece of this insert, with the end, or with this error. An
-- error of the source or of memory, and an earlier error, say nothing about them.
abbrev pub Answers : List ℕ → Option Pieces → Result (Option Insert) LoadFault → Option Pieces → Type 0
Answers resource old (Ok (Some insert)) new =
    (piece : List Json) × IsInsertOf resource piece insert × (old ≡ option_map (before piece) new)
Answers resource old (Ok None) new = IfSome old (λ pieces. pieces ≡ no_pieces)
Answers resource old (Err why) new =
    IsOutside why ⊎ (why ≡ fault.Spent) ⊎ IfSome old (λ pieces. pieces ≡ faulty why)
