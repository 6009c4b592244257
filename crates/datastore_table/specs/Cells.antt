-- Cells of a row by column. A column is the index of a field in the schema, from 0.
use Rattle.std.specs.Prelude.{ℕ, Bool, true, false, List, map, slice_get, unwrap_or}
use Rattle.std.specs.List.{list_any}
use Rattle.std.specs.Cmp.Lexicographic.{pointwise}
use Rattle.table_schema.specs.declared.cell.Cell.{Cell}
use Rattle.table_schema.specs.declared.cell.Cell.TheVariants as cell
use Rattle.table_schema.specs.Order.{same_cell}

-- the cell in this column, or Null if there is none
abbrev pub cell_at : List Cell → ℕ → Cell
cell_at cells column = unwrap_or (slice_get cells column) cell.Null

abbrev pub cells_at : List ℕ → List Cell → List Cell
cells_at columns cells = map (cell_at cells) columns

abbrev pub is_null : Cell → Bool
is_null cell.Null = true
is_null other = false

abbrev pub has_null : List Cell → Bool
has_null cells = list_any is_null cells

-- a cell in one of these columns is Null
abbrev pub has_null_at : List ℕ → List Cell → Bool
has_null_at columns cells = list_any (λ column. is_null (cell_at cells column)) columns

-- whether two keys are equal, cell by cell
abbrev pub same_cells : List Cell → List Cell → Bool
same_cells = pointwise same_cell
