-- Queries (CKAN's `datastore_search`): how the parts of a query are read, and the page of a table's rows that it
-- returns.
use Rattle.std.specs.Prelude.{◌≡◌, ℕ, Bool, true, false, ◌&&◌, if◌then◌else◌, List, [], ◌∷◌, ◌++◌, codes, drop}
use Rattle.std.specs.Prelude.{filter, fold, map, take, Result, Ok, Err}
use Rattle.std.specs.List.{list_any}
use Rattle.portal_base.specs.Tokens.{tokens}
use Rattle.table_schema.specs.declared.cell.Cell.{Cell}
use Rattle.table_schema.specs.Field.{FieldValue}
use Rattle.datastore_table.specs.declared.row.Row.{Row}
use Rattle.datastore_table.specs.Cells.{same_cells}
use Rattle.datastore_query.specs.declared.column.Column.{Column}
use Rattle.datastore_query.specs.declared.fault.QueryFault.{QueryFault}
use Rattle.datastore_query.specs.declared.fault.QueryFault.TheVariants.{Fields, OutOfMemory}
use Rattle.datastore_query.specs.declared.filter.Filter.{Filter}
use Rattle.datastore_query.specs.declared.parts.Parts.{Parts}
use Rattle.datastore_query.specs.declared.sort.Sort.{Sort}
use Rattle.datastore_query.specs.Column.{columns_reading, projected}
use Rattle.datastore_query.specs.Filter.{filters_reading, passes_filters}
use Rattle.datastore_query.specs.Sort.{in_order, sort_reading}
use Rattle.datastore_query.specs.Words.{has_words}

-- A query: its filters, its words, the columns that it returns, the columns that it sorts by, whether it returns only
-- the first of equal rows, and the bounds of the page.
pub record QueryValue : Type 0 where
  pub filters : List Filter
  pub words : List (List ℕ)
  pub columns : List Column
  pub sorts : List Sort
  pub distinct : Bool
  pub limit : ℕ
  pub offset : ℕ

-- ---- reading

-- the name of a faulty part, and its message
abbrev pub PartError : Type 0
PartError = List ℕ × List ℕ

abbrev pub part_errors : {A : Type 0} → List ℕ → Result A (List ℕ) → List PartError
part_errors part (Ok x) = []
part_errors part (Err message) = (part, message) ∷ []

abbrev pub query_errors : Result (List Column) (List ℕ) → Result (List Filter) (List ℕ) → Result (List Sort) (List ℕ)
    → List PartError
query_errors columns filters sorts =
    part_errors (codes "fields") columns ++ (part_errors (codes "filters") filters ++ part_errors (codes "sort") sorts)

abbrev pub query_of : Parts → Result (List Column) (List ℕ) → Result (List Filter) (List ℕ)
    → Result (List Sort) (List ℕ) → Result QueryValue (List PartError)
query_of parts (Ok columns) (Ok filters) (Ok sorts) = Ok (record {
  filters = filters;
  words = tokens parts.q;
  columns = columns;
  sorts = sorts;
  distinct = parts.distinct;
  limit = parts.limit;
  offset = parts.offset;
})
query_of parts columns filters sorts = Err (query_errors columns filters sorts)

-- The query that the parts are read as, for a table with these fields, or each faulty part with its message.
abbrev pub query_reading : List FieldValue → Parts → Result QueryValue (List PartError)
query_reading fields parts =
    query_of parts (columns_reading fields parts.fields) (filters_reading fields parts.filters)
    (sort_reading fields parts.sort)

-- the fault is that of the reading, or out of memory
abbrev pub IsFault : Result QueryValue (List PartError) → QueryFault → Type 0
IsFault reading OutOfMemory = Unit {0}
IsFault reading (Fields errors) = reading ≡ Err errors

-- ---- rows

abbrev pub is_selected : List Filter → List (List ℕ) → Row → Bool
is_selected filters words row = passes_filters filters row && has_words words row

-- the rows that pass the query's filters and have its words, in the table's order
abbrev pub selected_rows : QueryValue → List Row → List Row
selected_rows query rows = filter (is_selected query.filters query.words) rows

abbrev pub with_first : {A : Type 0} → (A → A → Bool) → List A → A → List A
with_first like kept x = if list_any (like x) kept then kept else kept ++ x ∷ []

-- the first of each group of alike items, in the given order
abbrev pub firsts : {A : Type 0} → (A → A → Bool) → List A → List A
firsts like xs = fold (with_first like) [] xs

abbrev pub firsts_if : Bool → List (List Cell) → List (List Cell)
firsts_if false rows = rows
firsts_if true rows = firsts same_cells rows

-- The rows on all pages: the selected rows in order, with their cells in the columns that the query returns. If the
-- query is distinct, only the first of equal rows.
abbrev pub listing : QueryValue → List Row → List (List Cell)
listing query rows =
    firsts_if query.distinct (map (projected query.columns) (in_order query.sorts (selected_rows query rows)))

-- the page of the listing
abbrev pub page_rows : QueryValue → List Row → List (List Cell)
page_rows query rows = take query.limit (drop query.offset (listing query rows))

-- the `_id`s of the rows that pass the query's filters
abbrev pub filtered_ids : QueryValue → List Row → List ℕ
filtered_ids query rows = map (λ row. row.id) (filter (passes_filters query.filters) rows)
