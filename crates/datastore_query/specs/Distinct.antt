-- The rows behind a query's listing, and how distinct ones are found: by digests of their cells. No public clause cites
-- this.
use Rattle.std.specs.Prelude.{◌≡◌, ℕ, Bool, true, false, List, Option, is_some, All, fold}
use Rattle.std.specs.Hash as hash
use Rattle.std.specs.Hash.DefaultHasher as sip
use Rattle.std.specs.declared.hash.DefaultHasher.{DefaultHasher}
use Rattle.table_schema.specs.Order.{type_rank}
use Rattle.table_schema.specs.declared.cell.Cell.{Cell}
use Rattle.datastore_table.specs.declared.row.Row.{Row}
use Rattle.datastore_table.specs.Cells.{same_cells}
use Rattle.datastore_table.specs.Index as table
use Rattle.datastore_query.specs.declared.column.Column.{Column}
use Rattle.datastore_query.specs.Column.{projected}
use Rattle.datastore_query.specs.Query.{QueryValue, firsts, selected_rows}
use Rattle.datastore_query.specs.Sort.{in_order}

-- Two rows have equal cells in these columns.
abbrev pub are_alike : List Column → Row → Row → Bool
are_alike columns a b = same_cells (projected columns a) (projected columns b)

abbrev pub firsts_alike_if : Bool → List Column → List Row → List Row
firsts_alike_if false columns rows = rows
firsts_alike_if true columns rows = firsts (are_alike columns) rows

-- The rows on all pages of a query, in order. If the query is distinct, only the first of rows with equal cells in its
-- columns.
abbrev pub listed_rows : QueryValue → List Row → List Row
listed_rows query rows =
    firsts_alike_if query.distinct query.columns (in_order query.sorts (selected_rows query rows))

-- a digest that takes one more cell: its type, and its value
abbrev pub with_cell : DefaultHasher → Cell → DefaultHasher
with_cell state c = table.with_cell (fold sip.write state (hash.u8 (type_rank c))) c

-- the digest of a row's cells in these columns
abbrev pub row_digest : List Column → Row → ℕ
row_digest columns row = sip.finish (fold with_cell sip.initial (projected columns row))

-- The map has the digest of each of the rows.
abbrev pub HaveDigests : List Column → List Row → (ℕ → Option ℕ) → Type 0
HaveDigests columns rows by_digest = All (λ row. is_some (by_digest (row_digest columns row)) ≡ true) rows
