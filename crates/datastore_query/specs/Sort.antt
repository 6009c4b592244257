-- Sorts: the columns that rows are sorted by, and the order of rows.
use Rattle.std.specs.Prelude.{ℕ, Bool, if◌then◌else◌, List, [], ◌∷◌, codes, flat_map, map, Option, Some, None, is_none}
use Rattle.std.specs.Prelude.{option_map, option_to_list, Result, Ok, Err}
use Rattle.std.specs.List.{list_any}
use Rattle.std.specs.declared.cmp.Ordering.{Ordering}
use Rattle.std.specs.Ordering.{on, then_cmp}
use Rattle.std.specs.Cmp.{IsTotalOrder}
use Rattle.std.proofs.lemmas.Cmp.{on_total, then_total}
use Rattle.portal_base.specs.Ordered.{ascending}
use Rattle.sorted_pages.specs.declared.direction.Direction.{Direction}
use Rattle.sorted_pages.specs.Direction.{turned, turned_total}
use Rattle.table_schema.specs.Field.{FieldValue}
use Rattle.table_schema.specs.Order.{cell_cmp, cell_cmp_total}
use Rattle.table_schema.specs.declared.cell.Cell.{Cell}
use Rattle.datastore_table.specs.declared.row.Row.{Row}
use Rattle.datastore_table.specs.Cells.{cell_at}
use Rattle.datastore_table.specs.Rows.{row_cmp, row_cmp_total}
use Rattle.datastore_query.specs.declared.column.Column.{Column}
use Rattle.datastore_query.specs.declared.column.Column.TheVariants as column
use Rattle.datastore_query.specs.declared.sort.Sort.{Sort}
use Rattle.datastore_query.specs.declared.sort.SortName.{SortName}
use Rattle.datastore_query.specs.Column.{column_of, no_field_error}
use Rattle.datastore_query.specs.SortText.{part_reading, parts_of}

-- ---- reading

abbrev pub name_if : List ℕ → Option Column → Option (List ℕ)
name_if name None = Some name
name_if name (Some on) = None

abbrev pub unknown_name : List FieldValue → Option SortName → Option (List ℕ)
unknown_name fields None = None
unknown_name fields (Some part) = name_if part.name (column_of fields part.name)

abbrev pub or_next : Option (List ℕ) → Option (List ℕ) → Option (List ℕ)
or_next (Some name) next = Some name
or_next None next = next

-- the first name that no column has
abbrev pub first_unknown : List FieldValue → List (Option SortName) → Option (List ℕ)
first_unknown fields [] = None
first_unknown fields (part ∷ parts) = or_next (unknown_name fields part) (first_unknown fields parts)

-- one of the parts can't be read
abbrev pub is_unreadable : List (Option SortName) → Bool
is_unreadable parts = list_any is_none parts

abbrev pub sort_on : Direction → Column → Sort
sort_on direction on = record { column = on; direction = direction }

abbrev pub sort_of : List FieldValue → Option SortName → Option Sort
sort_of fields None = None
sort_of fields (Some part) = option_map (sort_on part.direction) (column_of fields part.name)

abbrev pub sorts_in : List FieldValue → List (Option SortName) → List Sort
sorts_in fields parts = flat_map (λ part. option_to_list (sort_of fields part)) parts

abbrev pub unless_unreadable : Bool → List Sort → Result (List Sort) (List ℕ)
unless_unreadable unreadable sorts = if unreadable then Err (codes "Sort is not readable") else Ok sorts

abbrev pub unless_unknown : Result (List Sort) (List ℕ) → Option (List ℕ) → Result (List Sort) (List ℕ)
unless_unknown read None = read
unless_unknown read (Some name) = Err (no_field_error name)

abbrev pub parts_reading : List FieldValue → List (Option SortName) → Result (List Sort) (List ℕ)
parts_reading fields parts =
    unless_unknown (unless_unreadable (is_unreadable parts) (sorts_in fields parts)) (first_unknown fields parts)

-- The columns that a sort's text names, each with its direction. The error is that of the first name that no column
-- has. If each name has a column, it is that of a part that can't be read.
abbrev pub sort_reading : List FieldValue → List ℕ → Result (List Sort) (List ℕ)
sort_reading fields text = parts_reading fields (map part_reading (parts_of text))

-- ---- order

abbrev pub row_cell : ℕ → Row → Cell
row_cell index row = cell_at row.cells index

-- The order of rows by a column: by `_id`, or by the cells. Null comes last.
abbrev pub column_cmp : Column → Row → Row → Ordering
column_cmp column.Id = row_cmp
column_cmp (column.Field index) = on (row_cell index) cell_cmp

abbrev pub sort_cmp : Sort → Row → Row → Ordering
sort_cmp sort = turned sort.direction (column_cmp sort.column)

-- the order of rows by one column after another, and last by `_id`
abbrev pub sorts_cmp : List Sort → Row → Row → Ordering
sorts_cmp [] = row_cmp
sorts_cmp (sort ∷ sorts) = then_cmp (sort_cmp sort) (sorts_cmp sorts)

-- the rows in that order
abbrev pub in_order : List Sort → List Row → List Row
in_order sorts rows = ascending (sorts_cmp sorts) rows

pub column_cmp_total : (on_column : Column) → IsTotalOrder (column_cmp on_column)
column_cmp_total column.Id = row_cmp_total
column_cmp_total (column.Field index) = on_total (row_cell index) cell_cmp_total

pub sorts_cmp_total : (sorts : List Sort) → IsTotalOrder (sorts_cmp sorts)
sorts_cmp_total [] = row_cmp_total
sorts_cmp_total (sort ∷ sorts) =
    then_total (turned_total sort.direction (column_cmp_total sort.column)) (sorts_cmp_total sorts)
