-- The effects of the calls inside the crate on what is observable. Only their contracts use this.
use Rattle.std.specs.Prelude.{◌≡◌, ◌⊎◌, ℕ, ◌+◌, List, drop, Option, Some, None, option_map, IfSome, MatchOption, Result}
use Rattle.std.specs.Prelude.{Ok, Err}
use Rattle.table_schema.specs.Field.{FieldValue}
use Rattle.table_schema.specs.declared.cell.Cell.{Cell}
use Rattle.typed_csv.specs.declared.fault.LoadFault.{LoadFault}
use Rattle.typed_csv.specs.declared.fault.LoadFault.TheVariants as fault
use Rattle.typed_csv.specs.declared.header.Layout.{Layout}
use Rattle.typed_csv.specs.declared.loader.Stage.{Stage}
use Rattle.typed_csv.specs.declared.loader.Stage.TheVariants as stage
use Rattle.typed_csv.specs.declared.row_reader.RowReader.{RowReader}
use Rattle.typed_csv.specs.Faults.{IsOutside}
use Rattle.typed_csv.specs.Header.{header_reading}
use Rattle.typed_csv.specs.ReaderValue.{remaining_records}
use Rattle.typed_csv.specs.Rows.{Rows, before, faulty, no_rows, rows_from}

-- If the records are observable, the first one is a header of this layout, and the others are left.
abbrev pub TakesHeader : List FieldValue → Option (List (List (List ℕ))) → Layout → Option (List (List (List ℕ)))
    → Type 0
TakesHeader fields old layout new = MatchOption old (new ≡ None)
    (λ all. (header_reading fields all ≡ Ok layout) × (new ≡ Some (drop 1 all)))

-- The error of reading a header: that of the source or of memory, or that of the records, if they are observable.
abbrev pub RefusesRecords : List FieldValue → Option (List (List (List ℕ))) → LoadFault → Type 0
RefusesRecords fields observed why = IsOutside why ⊎ IfSome observed (λ all. header_reading fields all ≡ Err why)

-- the remaining rows of these records
abbrev pub rows_at : Stage → List FieldValue → Layout → ℕ → List (List (List ℕ)) → Rows
rows_at stage.Reading fields layout number records = rows_from fields layout (number + 1) records
rows_at stage.Ended fields layout number records = no_rows
rows_at stage.Spent fields layout number records = faulty fault.Spent

-- the remaining rows and the error that ends them, if the source is observable
abbrev pub remaining_rows : {S : Type 0} → (S → Option (List ℕ)) → Stage → RowReader S → Option Rows
remaining_rows to_come stage reader =
    option_map (rows_at stage reader.schema.fields reader.layout reader.number)
    (remaining_records to_come reader.records)

-- the schema and the header stay
abbrev pub IsOfSameColumns : {S : Type 0} → RowReader S → RowReader S → Type 0
IsOfSameColumns old new = (new.schema ≡ old.schema) × (new.layout ≡ old.layout)

-- The remaining rows start as the call returns, as in Answers, before the stage of the loader changes.
abbrev pub Reads : Option Rows → Result (Option (List Cell)) LoadFault → Option Rows → Type 0
Reads old (Ok (Some cells)) new = old ≡ option_map (before (Ok cells)) new
Reads old (Ok None) new = IfSome old (λ rows. rows ≡ no_rows)
Reads old (Err why) new = IsOutside why ⊎ IfSome old (λ rows. rows ≡ faulty why)
