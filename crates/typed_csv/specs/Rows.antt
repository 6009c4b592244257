-- The rows of a text of CSV by a schema: the records after the header, each with a cell for each field.
use Rattle.std.specs.Prelude.{ℕ, ◌+◌, nat_lt, ◌==◌, if◌then◌else◌, List, [], ◌∷◌, ◌++◌, length, drop, Option, Some}
use Rattle.std.specs.Prelude.{None, unwrap_or, Result, Ok, Err}
use Rattle.table_schema.specs.Field.{FieldValue}
use Rattle.table_schema.specs.Reading.{cell_reading}
use Rattle.table_schema.specs.declared.cell.Cell.{Cell}
use Rattle.table_schema.specs.declared.cell.CellFault.{CellFault}
use Rattle.typed_csv.specs.declared.fault.LoadFault.{LoadFault}
use Rattle.typed_csv.specs.declared.fault.LoadFault.TheVariants as fault
use Rattle.typed_csv.specs.declared.header.Layout.{Layout}
use Rattle.typed_csv.specs.declared.row.BadCell.{BadCell}
use Rattle.typed_csv.specs.Header.{header_reading}
use Rattle.typed_csv.specs.Records.{is_text, records_of, text_in}

-- ---- one row

-- The rank at which the cell of a field is tried: its column, or after all columns if it has none.
abbrev pub rank_of : ℕ → Option ℕ → ℕ
rank_of width column = unwrap_or column width

-- the cell of a text, or its fault with the name of the field
abbrev pub cell_or_bad : FieldValue → ℕ → List ℕ → Result Cell BadCell
cell_or_bad field rank text = with_name (cell_reading field text)
  where
    with_name : Result Cell CellFault → Result Cell BadCell
    with_name (Ok cell) = Ok cell
    with_name (Err fault) = Err (record { rank = rank; name = field.name; fault = fault })

-- The bad cell that is tried first. Of fields without a column it is the one that comes first in the schema.
abbrev pub first_of : BadCell → BadCell → BadCell
first_of bad later = if nat_lt later.rank bad.rank then later else bad

-- the cells followed by one more, or the bad cell that is tried first
abbrev pub and_then : Result (List Cell) BadCell → Result Cell BadCell → Result (List Cell) BadCell
and_then (Ok cells) (Ok cell) = Ok (cells ++ cell ∷ [])
and_then (Ok cells) (Err bad) = Err bad
and_then (Err bad) (Ok cell) = Err bad
and_then (Err bad) (Err later) = Err (first_of bad later)

-- a cell followed by others, or the bad cell that is tried first
abbrev pub joined : Result Cell BadCell → Result (List Cell) BadCell → Result (List Cell) BadCell
joined (Ok cell) (Ok cells) = Ok (cell ∷ cells)
joined (Ok cell) (Err bad) = Err bad
joined (Err bad) (Ok cells) = Err bad
joined (Err bad) (Err later) = Err (first_of bad later)

-- The cells of a record in the schema's order, if each field has one; otherwise the bad cell that is tried first.
abbrev pub cells_reading : ℕ → List (List ℕ) → List FieldValue → List (Option ℕ) → Result (List Cell) BadCell
cells_reading width texts (field ∷ fields) (column ∷ columns) =
    joined (cell_or_bad field (rank_of width column) (text_in texts column)) (cells_reading width texts fields columns)
cells_reading width texts fields columns = Ok []

abbrev pub cells_or_fault : ℕ → Result (List Cell) BadCell → Result (List Cell) LoadFault
cells_or_fault number (Ok cells) = Ok cells
cells_or_fault number (Err bad) = Err (fault.Cell number bad.name bad.fault)

-- The cells of a record as the row with this number, counted from 1, or its error.
abbrev pub row_reading : List FieldValue → Layout → ℕ → List (List ℕ) → Result (List Cell) LoadFault
row_reading fields layout number texts =
    if is_text texts
    then if length texts == layout.width
    then cells_or_fault number (cells_reading layout.width texts fields layout.columns)
    else Err (fault.Width number)
    else Err (fault.NotUtf8 number)

-- ---- all rows

-- rows, and the error that ends them, if one does
pub record Rows : Type 0 where
  pub rows : List (List Cell)
  pub fault : Option LoadFault

abbrev pub no_rows : Rows
no_rows = record { rows = []; fault = None }

abbrev pub faulty : LoadFault → Rows
faulty why = record { rows = []; fault = Some why }

-- A row followed by others. Nothing is read after an error.
abbrev pub before : Result (List Cell) LoadFault → Rows → Rows
before (Ok cells) more = record { rows = cells ∷ more.rows; fault = more.fault }
before (Err why) more = faulty why

-- the rows of these records, the first of which has this number
abbrev pub rows_from : List FieldValue → Layout → ℕ → List (List (List ℕ)) → Rows
rows_from fields layout number [] = no_rows
rows_from fields layout number (texts ∷ records) =
    before (row_reading fields layout number texts) (rows_from fields layout (number + 1) records)

abbrev pub rows_under : List FieldValue → List (List (List ℕ)) → Result Layout LoadFault → Result Rows LoadFault
rows_under fields records (Ok layout) = Ok (rows_from fields layout 1 records)
rows_under fields records (Err why) = Err why

-- the rows of a text, or the error of its header
abbrev pub rows_of : List FieldValue → List ℕ → Result Rows LoadFault
rows_of fields text =
    rows_under fields (drop 1 (records_of text)) (header_reading fields (records_of text))
