-- The definitions on worked examples: rows of a text `k` and an integer `n`, one of them without a number.
use Rattle.std.proofs.Common.{◌≡◌, ℕ, Bool, true, false, List, [], ◌∷◌, Option, Some, None, Ok, Err, refl, rules}
use Rattle.std.specs.Prelude.{codes, pos}
use Rattle.portal_base.specs.declared.json_value.Json as json
use Rattle.portal_base.specs.declared.json_value.Json.{Json, the_lemmas}
use Rattle.table_schema.specs.declared.cell.Cell.{Cell}
use Rattle.table_schema.specs.declared.cell.Cell.TheVariants as cell
use Rattle.table_schema.specs.declared.form.Form.{Form}
use Rattle.table_schema.specs.declared.form.Form.TheVariants as form
use Rattle.table_schema.specs.Descriptor.{no_constraints}
use Rattle.table_schema.specs.Field.{FieldValue}
use Rattle.table_schema.specs.Order.{cell_cmp}
use Rattle.datastore_table.specs.declared.row.Row.{Row}
use Rattle.datastore_table.specs.Cells.{same_cells}
use Rattle.datastore_query.specs.declared.column.Column.TheVariants as column
use Rattle.datastore_query.specs.declared.sort.SortName.{SortName}
use Rattle.sorted_pages.specs.declared.direction.Direction.{Direction}
use Rattle.sorted_pages.specs.declared.direction.Direction.TheVariants.{Ascending, Descending}
use Rattle.datastore_query.specs.Column.{all_columns, named_columns}
use Rattle.datastore_query.specs.Filter.{filters_reading, passes_filters}
use Rattle.datastore_query.specs.Query.{firsts, page_rows, QueryValue}
use Rattle.datastore_query.specs.Sort.{in_order, parts_reading, sort_reading}
use Rattle.datastore_query.specs.SortText.{is_unclosed, name_of, parts_of}

abbrev field : List ℕ → Form → FieldValue
field name form =
    record { name = name; form = form; constraints = no_constraints; missing = [] ∷ []; in_key = false }

abbrev fields : List FieldValue
fields = field (codes "k") form.Text ∷ field (codes "n") (form.Integer true) ∷ []

abbrev row : ℕ → List ℕ → Cell → Row
row id k n = record { id = id; cells = cell.Text k ∷ n ∷ [] }

abbrev first : Row
first = row 1 (codes "b") (cell.Int (pos 7))

abbrev second : Row
second = row 2 (codes "a") cell.Null

abbrev third : Row
third = row 5 (codes "c") (cell.Int (pos 7))

abbrev rows : List Row
rows = first ∷ second ∷ third ∷ []

-- ---- order

-- Null is last, and ties go by `_id`.
upwards : in_order (record { column = column.Field 1; direction = Ascending } ∷ []) rows ≡ first ∷ third ∷ second ∷ []
unfolding cell_cmp
upwards = refl

-- Null is first, and ties still go by ascending `_id`.
downwards : in_order (record { column = column.Field 1; direction = Descending } ∷ []) rows
    ≡ second ∷ first ∷ third ∷ []
unfolding cell_cmp
downwards = refl

by_id : in_order (record { column = column.Id; direction = Descending } ∷ []) rows ≡ third ∷ second ∷ first ∷ []
unfolding cell_cmp
by_id = refl

-- ---- sorts

abbrev by : List ℕ → Direction → Option SortName
by name direction = Some (record { name = name; direction = direction })

sorted : parts_reading fields (by (codes "n") Descending ∷ by (codes "k") Ascending ∷ [])
    ≡ Ok (record { column = column.Field 1; direction = Descending }
    ∷ record { column = column.Field 0; direction = Ascending } ∷ [])
sorted = refl

unsorted : sort_reading fields [] ≡ Ok []
unsorted = refl

-- The error of an unknown name comes before that of a part that can't be read.
unknown_first : parts_reading fields (None ∷ by (codes "up") Ascending ∷ []) ≡ Err (codes "No field up")
unknown_first = refl

unreadable : parts_reading fields (by (codes "k") Ascending ∷ None ∷ []) ≡ Err (codes "Sort is not readable")
unreadable = refl

-- A comma between double quotes ends no part.
quoted : parts_of (codes "\"a,b\",c") ≡ codes "\"a,b\"" ∷ codes "c" ∷ []
quoted = refl

unquoted : name_of (codes "\"a,b\"") ≡ codes "a,b"
unquoted = refl

unclosed : is_unclosed (codes "\"a,b") ≡ true
unclosed = refl

-- ---- filters

-- An empty list passes no row.
empty_passes_none : passes_filters (record { column = column.Field 0; values = [] } ∷ []) first ≡ false
empty_passes_none = refl

null_passes :
    passes_filters (record { column = column.Field 1; values = cell.Null ∷ cell.Int (pos 8) ∷ [] } ∷ []) second
    ≡ true
null_passes = refl

-- The error is that of the least key without a column, though a key with a faulty value comes before it.
no_column : filters_reading fields (json.Map ((codes "n", json.Text (codes "x")) ∷ (codes "z", json.Null)
    ∷ (codes "y", json.Null) ∷ []))
    ≡ Err (codes "No field y")
no_column = search (rules, the_lemmas)

-- An integer is no text.
not_of_its_type : filters_reading fields (json.Map ((codes "k", json.Whole (pos 7)) ∷ []))
    ≡ Err (codes "k: not of type")
not_of_its_type = search (rules, the_lemmas)

-- ---- columns

columns : all_columns fields ≡ column.Id ∷ column.Field 0 ∷ column.Field 1 ∷ []
columns = refl

no_name : named_columns fields (codes "k" ∷ codes "z" ∷ codes "y" ∷ []) ≡ Err (codes "No field z")
no_name = refl

-- ---- pages

abbrev numbers : Bool → ℕ → ℕ → QueryValue
numbers distinct limit offset = record {
  filters = [];
  words = [];
  columns = column.Field 1 ∷ [];
  sorts = [];
  distinct = distinct;
  limit = limit;
  offset = offset;
}

-- A page is taken after the rows are made distinct.
distinct_cut : page_rows (numbers true 1 1) rows ≡ (cell.Null ∷ []) ∷ []
distinct_cut = refl

all_cut : page_rows (numbers false 2 1) rows ≡ (cell.Null ∷ []) ∷ (cell.Int (pos 7) ∷ []) ∷ []
all_cut = refl

first_stays : firsts same_cells ((cell.Null ∷ []) ∷ (cell.Truth true ∷ []) ∷ (cell.Null ∷ []) ∷ [])
    ≡ (cell.Null ∷ []) ∷ (cell.Truth true ∷ []) ∷ []
first_stays = refl
