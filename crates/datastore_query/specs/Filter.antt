-- Filters: which rows have one of the given values in a column.
use Rattle.std.specs.Prelude.{◌≡◌, ℕ, Bool, false, List, [], ◌∷◌, ◌++◌, All, Contains, codes, filter, map}
use Rattle.std.specs.Prelude.{Option, Some, None, is_none, option_map, Result, Ok, Err, pos}
use Rattle.std.specs.List.{filter_map, list_all, list_any, reduce}
use Rattle.std.specs.Ordering.{int_eq, is_lt, nat_cmp, ord_min}
use Rattle.std.specs.Cmp.Lexicographic.{slice_cmp}
use Rattle.portal_base.specs.Kinds.{all_of}
use Rattle.portal_base.specs.declared.json_value.Json.{Json, out-Json}
use Rattle.portal_base.specs.declared.json_value.Json.TheOpen.{Json-F}
use Rattle.table_schema.specs.declared.cell.Cell.{Cell}
use Rattle.table_schema.specs.declared.cell.Cell.TheVariants as cell
use Rattle.table_schema.specs.declared.form.Kind.{Kind}
use Rattle.table_schema.specs.Field.{FieldValue}
use Rattle.table_schema.specs.Order.{same_cell}
use Rattle.table_schema.specs.Reading.{value_reading}
use Rattle.datastore_table.specs.declared.row.Row.{Row}
use Rattle.datastore_table.specs.Cells.{cell_at}
use Rattle.datastore_query.specs.declared.column.Column.{Column}
use Rattle.datastore_query.specs.declared.column.Column.TheVariants as column
use Rattle.datastore_query.specs.declared.filter.Filter.{Filter}
use Rattle.datastore_query.specs.Column.{column_kind, column_of, no_field_error}
use Rattle.datastore_query.specs.Results.{unless_error}

-- ---- one filter: a column's name with a value or a list of values, of which a row has one

abbrev pub cell_in : Kind → Json → Json-F Json → Option Cell
cell_in kind value Json-F.Null = Some cell.Null
cell_in kind value other = value_reading kind value

-- The cell of one value, by the column's type alone; null is Null.
abbrev pub filter_cell : Kind → Json → Option Cell
filter_cell kind value = cell_in kind value (out-Json value)

abbrev pub one_cell : Cell → List Cell
one_cell c = c ∷ []

abbrev pub values_in : Kind → Json → Json-F Json → Option (List Cell)
values_in kind value (Json-F.List items) = all_of (filter_cell kind) items
values_in kind value other = option_map one_cell (filter_cell kind value)

-- the cells of one value, or of a list of values
abbrev pub filter_values : Kind → Json → Option (List Cell)
filter_values kind value = values_in kind value (out-Json value)

abbrev pub Entry : Type 0
Entry = List ℕ × Json

abbrev pub filter_on : Column → List Cell → Filter
filter_on on cells = record { column = on; values = cells }

abbrev pub reading_on : List FieldValue → Json → Option Column → Option Filter
reading_on fields value None = None
reading_on fields value (Some on) = option_map (filter_on on) (filter_values (column_kind fields on) value)

-- the filter of an entry, if its column exists and its values have the column's type
abbrev pub entry_reading : List FieldValue → Entry → Option Filter
entry_reading fields entry = reading_on fields entry.1 (column_of fields entry.0)

-- ---- all filters

abbrev pub is_unknown : List FieldValue → Entry → Bool
is_unknown fields entry = is_none (column_of fields entry.0)

abbrev pub is_unreadable : List FieldValue → Entry → Bool
is_unreadable fields entry = is_none (entry_reading fields entry)

-- the keys of the entries that pass the test
abbrev pub keys_where : (Entry → Bool) → List Entry → List (List ℕ)
keys_where test entries = map (λ entry. entry.0) (filter test entries)

-- the keys that name no column
abbrev pub unknown_keys : List FieldValue → List Entry → List (List ℕ)
unknown_keys fields entries = keys_where (is_unknown fields) entries

-- the keys whose filter can't be read
abbrev pub unreadable_keys : List FieldValue → List Entry → List (List ℕ)
unreadable_keys fields entries = keys_where (is_unreadable fields) entries

-- the least of these keys in the order of bytes, if there is one
abbrev pub least : List (List ℕ) → Option (List ℕ)
least keys = reduce (ord_min (slice_cmp nat_cmp)) keys

-- The key is one of these, and none of these is less in the order of bytes.
pub record IsLeast (keys : List (List ℕ)) (key : List ℕ) : Type 0 where
  pub among : Contains keys key
  pub none_less : All (λ other. is_lt (slice_cmp nat_cmp other key) ≡ false) keys

-- the filters of the entries that can be read
abbrev pub filters_in : List FieldValue → List Entry → List Filter
filters_in fields entries = filter_map (entry_reading fields) entries

abbrev pub type_error : List ℕ → List ℕ
type_error name = name ++ codes ": not of type"

abbrev pub entries_reading : List FieldValue → List Entry → Result (List Filter) (List ℕ)
entries_reading fields entries =
    unless_error (option_map no_field_error (least (unknown_keys fields entries)))
    (unless_error (option_map type_error (least (unreadable_keys fields entries))) (Ok (filters_in fields entries)))

-- What the entries are read as: the filter of each entry, or an error. The error names the least key that names no
-- column. If each key names one, it names the least key whose value doesn't have the column's type.
pub data IsFiltersReading (fields : List FieldValue) (entries : List Entry) : Result (List Filter) (List ℕ) → Type 0
  where
    each_read : (read : List Filter) → map (entry_reading fields) entries ≡ map Some read
        → IsFiltersReading fields entries (Ok read)
    no_field : (key : List ℕ) → IsLeast (unknown_keys fields entries) key
        → IsFiltersReading fields entries (Err (no_field_error key))
    not_of_type : (key : List ℕ) → unknown_keys fields entries ≡ [] → IsLeast (unreadable_keys fields entries) key
        → IsFiltersReading fields entries (Err (type_error key))

abbrev pub entries_in : Json-F Json → List Entry
entries_in (Json-F.Map entries) = entries
entries_in other = []

abbrev pub entries_of : Json → List Entry
entries_of filters = entries_in (out-Json filters)

-- the filters of a JSON object, or an error
abbrev pub filters_reading : List FieldValue → Json → Result (List Filter) (List ℕ)
filters_reading fields filters = entries_reading fields (entries_of filters)

-- ---- passing

-- the value is this `_id`
abbrev pub is_id : ℕ → Cell → Bool
is_id id (cell.Int z) = int_eq z (pos id)
is_id id other = false

abbrev pub has_value : Column → Row → Cell → Bool
has_value column.Id row value = is_id row.id value
has_value (column.Field index) row value = same_cell (cell_at row.cells index) value

-- The row has one of the values. If there are no values, no row passes.
abbrev pub passes_filter : Row → Filter → Bool
passes_filter row filter = list_any (has_value filter.column row) filter.values

abbrev pub passes_filters : List Filter → Row → Bool
passes_filters filters row = list_all (passes_filter row) filters
