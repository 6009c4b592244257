-- The rows of a table in ascending order of their `_id`: look-ups by cells, and how written rows join the others.
use Rattle.std.specs.Prelude.{ℕ, ◌==◌, Bool, true, ◌&&◌, ◌||◌, not, if◌then◌else◌, List, Option, Some, None, find, fold}
use Rattle.std.specs.List.{list_any}
use Rattle.std.specs.declared.cmp.Ordering.{Ordering}
use Rattle.std.specs.Ordering.{is_eq, is_lt, nat_cmp}
use Rattle.std.specs.Cmp.{IsTotalOrder}
use Rattle.std.proofs.lemmas.Cmp.{on_total}
use Rattle.std.specs.Cmp.{nat_cmp_total}
use Rattle.lexical_forms.specs.Digits.{is_empty}
use Rattle.portal_base.specs.Ordered.{upserted}
use Rattle.table_schema.specs.Order.{same_cell}
use Rattle.table_schema.specs.declared.cell.Cell.{Cell}
use Rattle.datastore_table.specs.declared.row.Row.{Row}
use Rattle.datastore_table.specs.Cells.{cell_at, cells_at, has_null, is_null, same_cells}

-- the order by `_id`
abbrev pub row_cmp : Row → Row → Ordering
row_cmp a b = nat_cmp a.id b.id

pub row_cmp_total : IsTotalOrder row_cmp
row_cmp_total = on_total (λ row. row.id) nat_cmp_total

abbrev pub has_id : ℕ → Row → Bool
has_id id row = row.id == id

-- the row with this `_id`
abbrev pub row_at : ℕ → List Row → Option Row
row_at id rows = find (has_id id) rows

-- the row has these cells in these columns
abbrev pub has_cells : List ℕ → List Cell → Row → Bool
has_cells columns cells row = same_cells (cells_at columns row.cells) cells

-- The first row that has these cells in these columns. There is none if a cell is Null or if there are no columns.
abbrev pub row_with : List ℕ → List Cell → List Row → Option Row
row_with columns cells rows = if is_empty columns || has_null cells then None else find (has_cells columns cells) rows

-- the row is not the excepted one
abbrev pub is_other : Option ℕ → Row → Bool
is_other None row = true
is_other (Some id) row = not (has_id id row)

abbrev pub takes_cell : Option ℕ → ℕ → Cell → Row → Bool
takes_cell except column c row = is_other except row && same_cell (cell_at row.cells column) c

-- A row other than the excepted one has the cell in this column, and the cell isn't Null.
abbrev pub is_taken : Option ℕ → ℕ → Cell → List Row → Bool
is_taken except column c rows = not (is_null c) && list_any (takes_cell except column c) rows

-- the rows after these were written: each replaces the row with its `_id` or is a new row
abbrev pub rows_after : List Row → List Row → List Row
rows_after written rows = fold (λ others row. upserted row_cmp row others) rows written

-- one of the rows has the `_id` of this one
abbrev pub has_like : List Row → Row → Bool
has_like rows row = list_any (λ other. is_eq (row_cmp row other)) rows

-- the lesser of the two; the first if they are equal
abbrev pub earlier : {X : Type 0} → (X → X → Ordering) → Option X → Option X → Option X
earlier cmp None other = other
earlier cmp (Some a) None = Some a
earlier cmp (Some a) (Some b) = if is_lt (cmp b a) then Some b else Some a
