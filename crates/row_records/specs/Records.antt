-- Rows of a table as records: the dictionaries for rows in bodies and replies (CKAN 2.10, DataStore).
use Rattle.std.specs.Prelude.{ℕ, suc, List, [], ◌∷◌, map, slice_get, unwrap_or}
use Rattle.std.specs.declared.cmp.Ordering.{Ordering}
use Rattle.std.specs.Ordering.{nat_cmp}
use Rattle.std.specs.Cmp.{IsTotalOrder}
use Rattle.std.specs.Cmp.Lexicographic.{slice_cmp}
use Rattle.std.proofs.lemmas.Cmp.{on_total, nat_list_cmp_total}
use Rattle.portal_base.specs.Ordered.{upserted}
use Rattle.portal_base.specs.declared.json_value.Json.{Json, Map}
use Rattle.table_schema.specs.Printed.{cell_value}
use Rattle.table_schema.specs.declared.cell.Cell.{Cell}
use Rattle.table_schema.specs.declared.cell.Cell.TheVariants.{Null}
use Rattle.row_records.specs.declared.columns.Column.{Column}

-- the order by name
abbrev pub column_cmp : Column → Column → Ordering
column_cmp c d = slice_cmp nat_cmp c.name d.name

pub column_cmp_total : IsTotalOrder column_cmp
column_cmp_total = on_total (λ c. c.name) nat_list_cmp_total

-- The columns with these names, the first of which has this index. Of columns with the same name the first is kept.
abbrev pub columns_from : ℕ → List (List ℕ) → List Column
columns_from index [] = []
columns_from index (name ∷ names) =
    upserted column_cmp (record { name = name; index = index }) (columns_from (suc index) names)

-- the columns with these names, ascending by bytes, each with the index of its cell in a row, counted from 0
abbrev pub columns_of : List (List ℕ) → List Column
columns_of names = columns_from 0 names

-- a column's name, and the value of its cell in the row
abbrev pub member_at : List Cell → Column → List ℕ × Json
member_at cells column = (column.name, cell_value (unwrap_or (slice_get cells column.index) Null))

-- A row as a record: the name of each column with the value of its cell, which is null if the row has no such cell.
abbrev pub record_of : List Column → List Cell → Json
record_of columns cells = Map (map (member_at cells) columns)
