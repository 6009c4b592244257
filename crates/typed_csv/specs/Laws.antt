-- Headers by the index of each column, and rows by the index of each field, for the laws.
use Rattle.std.specs.Prelude.{◌≡◌, ◌<◌, ◌≤◌, ℕ, false, List, length, take, Option, Some, slice_get}
use Rattle.table_schema.specs.Field.{FieldValue}
use Rattle.table_schema.specs.Reading.{Fails, Reads}
use Rattle.table_schema.specs.declared.cell.Cell.{Cell}
use Rattle.typed_csv.specs.declared.row.BadCell.{BadCell}
use Rattle.typed_csv.specs.Header.{is_valid_column}
use Rattle.typed_csv.specs.Records.{text_at, text_in}
use Rattle.typed_csv.specs.Rows.{rank_of}

-- The field at this index, counted from 0, fails on the text in its column, and this is its bad cell.
pub record IsBadAt (width : ℕ) (texts : List (List ℕ)) (fields : List FieldValue) (columns : List (Option ℕ))
    (index : ℕ) (bad : BadCell) : Type 0 where
  pub field : FieldValue
  pub column : Option ℕ
  pub at_index : slice_get fields index ≡ Some field
  pub is_read : slice_get columns index ≡ Some column
  pub fails : Fails field (text_in texts column) bad.fault
  pub name : bad.name ≡ field.name
  pub rank : bad.rank ≡ rank_of width column

-- It is a bad cell, none has a lower rank, and none of the same rank has a field that comes earlier in the schema.
abbrev pub IsFirstBad : ℕ → List (List ℕ) → List FieldValue → List (Option ℕ) → BadCell → Type 0
IsFirstBad width texts fields columns bad =
    (index : ℕ) × IsBadAt width texts fields columns index bad
    × ((later : ℕ) (other : BadCell) → IsBadAt width texts fields columns later other →
    (bad.rank ≤ other.rank) × (bad.rank ≡ other.rank → index ≤ later))

-- There is a cell for each field, in the same order, and it is what the text in the field's column reads as.
abbrev pub AreCellsOf : List (List ℕ) → List FieldValue → List (Option ℕ) → List Cell → Type 0
AreCellsOf texts fields columns cells =
    (length cells ≡ length fields)
    × ((index : ℕ) (field : FieldValue) (column : Option ℕ) (cell : Cell) →
    slice_get fields index ≡ Some field → slice_get columns index ≡ Some column → slice_get cells index ≡ Some cell →
    Reads field (text_in texts column) cell)

-- The column, counted from 0, has a name that is invalid after the names before it.
abbrev pub IsInvalidColumn : List FieldValue → List (List ℕ) → ℕ → Type 0
IsInvalidColumn fields names column =
    (column < length names) × (is_valid_column fields (take column names) (text_at names column) ≡ false)

-- It is invalid, and no earlier column is.
abbrev pub IsFirstInvalidColumn : List FieldValue → List (List ℕ) → ℕ → Type 0
IsFirstInvalidColumn fields names column =
    IsInvalidColumn fields names column × ((earlier : ℕ) → earlier < column → IsInvalidColumn fields names earlier → ⊥)
