-- The value of a loader, as contracts see it, and the results of its calls.
use Rattle.std.specs.Prelude.{◌≡◌, ◌⊎◌, ◌≤◌, ◌^◌, ℕ, ◌+◌, List, [], ◌∷◌, ⊤, Option, Some, None, option_map}
use Rattle.std.specs.Prelude.{IsSome, IfSome, MatchOption, Result, Ok, Err}
use Rattle.portal_base.specs.Outside.{IsAtEnd}
use Rattle.table_schema.specs.Field.{FieldValue}
use Rattle.table_schema.specs.declared.cell.Cell.{Cell}
use Rattle.typed_csv.specs.declared.fault.LoadFault.{LoadFault}
use Rattle.typed_csv.specs.declared.fault.LoadFault.TheVariants as fault
use Rattle.typed_csv.specs.declared.header.Layout.{Layout}
use Rattle.typed_csv.specs.declared.loader.Stage.{Stage}
use Rattle.typed_csv.specs.declared.loader.Stage.TheVariants as stage
use Rattle.typed_csv.specs.Faults.{IsOutside}
use Rattle.typed_csv.specs.Header.{header_reading}
use Rattle.typed_csv.specs.ReaderValue.{IsCounted}
use Rattle.typed_csv.specs.Rows.{Rows, before, faulty, no_rows, row_reading, rows_of}

-- A loader: its source as far as it was read, the count of bytes that the source gave, the fields of the schema, the
-- columns that the header has for them, the count of rows so far, and the stage. If the source is observable,
-- `remaining` has the remaining rows and the error that ends them.
pub record LoaderValue (S : Type 0) : Type 0 where
  pub source : S
  pub given : ℕ
  pub fields : List FieldValue
  pub layout : Layout
  pub number : ℕ
  pub stage : Stage
  pub remaining : Option Rows

-- A loader that isn't spent received no more bytes than a source may give.
abbrev pub IsWithin : Stage → ℕ → Type 0
IsWithin stage.Spent given = ⊤
IsWithin other given = given ≤ 2 ^ 40

-- A loader that has ended is at the end of its source.
abbrev pub IsAtEndIfEnded : Stage → Option (List ℕ) → Type 0
IsAtEndIfEnded stage.Ended observed = IsAtEnd observed
IsAtEndIfEnded other observed = ⊤

-- The invariant of loaders: the limit of the bytes received, and the end of the source.
pub record IsConsistentLoader (stage : Stage) (given : ℕ) (observed : Option (List ℕ)) : Type 0 where
  pub within : IsWithin stage given
  pub at_end_if_ended : IsAtEndIfEnded stage observed

-- The remaining rows are observable if the source is: there is none at the end, and a spent loader has the error Spent.
abbrev pub IsObservable : Stage → Option (List ℕ) → Option Rows → Type 0
IsObservable stage.Reading observed remaining = MatchOption observed (remaining ≡ None) (λ rest. IsSome remaining)
IsObservable stage.Ended observed remaining = remaining ≡ option_map (λ rest. no_rows) observed
IsObservable stage.Spent observed remaining = remaining ≡ option_map (λ rest. faulty fault.Spent) observed

-- The source gave some bytes in this call, and they were counted.
abbrev pub IsGiven : {S : Type 0} → (S → Option (List ℕ)) → LoaderValue S → LoaderValue S → Type 0
IsGiven to_come old new = IsCounted (to_come old.source) old.given (to_come new.source) new.given

-- The remaining rows start as the call returns: with this row, with the end, or with this error. An error of the source
-- or of memory, and a spent loader, say nothing about them.
abbrev pub Answers : Option Rows → Result (Option (List Cell)) LoadFault → Option Rows → Type 0
Answers old (Ok (Some cells)) new = old ≡ option_map (before (Ok cells)) new
Answers old (Ok None) new = (IfSome old (λ rows. rows ≡ no_rows)) × (new ≡ old)
Answers old (Err why) new = IsOutside why ⊎ (why ≡ fault.Spent) ⊎ IfSome old (λ rows. rows ≡ faulty why)

-- The cells are the row of some record after `number` rows, whether the source is observable or not.
abbrev pub IsRow : List FieldValue → Layout → ℕ → List Cell → Type 0
IsRow fields layout number cells = (texts : List (List ℕ)) × (row_reading fields layout (number + 1) texts ≡ Ok cells)

-- The error of reading a row, whether the source is observable or not: that of the source or of memory, that of a spent
-- loader, or that of some record as the row after `number` rows.
abbrev pub IsRowFault : List FieldValue → Layout → ℕ → LoadFault → Type 0
IsRowFault fields layout number why = IsOutside why ⊎ (why ≡ fault.Spent)
    ⊎ ((texts : List (List ℕ)) × (row_reading fields layout (number + 1) texts ≡ Err why))

-- The stage after a result: a loader reads on after a row, has ended at the end, and is spent after an error.
abbrev pub stage_after : Result (Option (List Cell)) LoadFault → Stage
stage_after (Ok (Some cells)) = stage.Reading
stage_after (Ok None) = stage.Ended
stage_after (Err why) = stage.Spent

-- The layout is that of some header, whether the source is observable or not.
abbrev pub IsLayout : List FieldValue → Layout → Type 0
IsLayout fields layout = (names : List (List ℕ)) × (header_reading fields (names ∷ []) ≡ Ok layout)

-- the fields and the header stay
abbrev pub IsOfSameFile : {S : Type 0} → LoaderValue S → LoaderValue S → Type 0
IsOfSameFile old new = (new.fields ≡ old.fields) × (new.layout ≡ old.layout)

-- the count of rows after a result
abbrev pub number_after : ℕ → Result (Option (List Cell)) LoadFault → ℕ
number_after number (Ok (Some cells)) = number + 1
number_after number other = number

-- The error of starting a loader, whether the source is observable or not: that of the source or of memory, or that of
-- the header of some records.
abbrev pub IsHeaderFault : List FieldValue → LoadFault → Type 0
IsHeaderFault fields why =
    IsOutside why ⊎ ((records : List (List (List ℕ))) × (header_reading fields records ≡ Err why))

-- The remaining rows of the loader are those of the text, if it is observable.
abbrev pub Begins : List FieldValue → Option (List ℕ) → Option Rows → Type 0
Begins fields observed remaining = option_map (rows_of fields) observed ≡ option_map Ok remaining

-- The error of starting a loader: that of the source or of memory, or that of the text's header, if the text is
-- observable.
abbrev pub RefusesHeader : List FieldValue → Option (List ℕ) → LoadFault → Type 0
RefusesHeader fields observed why = IsOutside why ⊎ IfSome observed (λ text. rows_of fields text ≡ Err why)
