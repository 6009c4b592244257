-- The columns of a table's rows, which are `_id` and the fields, and the columns that a query returns.
use Rattle.std.specs.Prelude.{ℕ, ◌+◌, ◌^◌, nat_lt, if◌then◌else◌, List, [], ◌∷◌, ◌++◌, codes, map, position, pos}
use Rattle.std.specs.Prelude.{slice_get, Option, Some, None, option_map, Result, Ok, Err, decimal}
use Rattle.std.specs.Str.{bytes_eq}
use Rattle.table_schema.specs.declared.cell.Cell.{Cell}
use Rattle.table_schema.specs.declared.cell.Cell.TheVariants as cell
use Rattle.table_schema.specs.declared.form.Kind.{Kind}
use Rattle.table_schema.specs.declared.form.Kind.TheVariants as kind
use Rattle.table_schema.specs.Field.{FieldValue}
use Rattle.table_schema.specs.Form.{kind_of}
use Rattle.datastore_table.specs.declared.row.Row.{Row}
use Rattle.datastore_table.specs.Cells.{cell_at}
use Rattle.datastore_query.specs.declared.column.Column.{Column}
use Rattle.datastore_query.specs.declared.column.Column.TheVariants as column
use Rattle.datastore_query.specs.Results.{each_read}

-- ---- names

-- the index of the field with this name
abbrev pub field_index : List FieldValue → List ℕ → Option ℕ
field_index fields name = position (λ (field : FieldValue). bytes_eq field.name name) fields

-- the column with this name
abbrev pub column_of : List FieldValue → List ℕ → Option Column
column_of fields name =
    if bytes_eq name (codes "_id") then Some column.Id else option_map column.Field (field_index fields name)

abbrev pub name_in : Option FieldValue → List ℕ
name_in None = []
name_in (Some field) = field.name

abbrev pub column_name : List FieldValue → Column → List ℕ
column_name fields column.Id = codes "_id"
column_name fields (column.Field index) = name_in (slice_get fields index)

abbrev pub kind_in : Option FieldValue → Kind
kind_in None = kind.Text
kind_in (Some field) = kind_of field.form

-- the type of its cells
abbrev pub column_kind : List FieldValue → Column → Kind
column_kind fields column.Id = kind.Integer
column_kind fields (column.Field index) = kind_in (slice_get fields index)

-- ---- the columns that a query returns

abbrev pub field_columns_from : ℕ → List FieldValue → List Column
field_columns_from index [] = []
field_columns_from index (field ∷ fields) = column.Field index ∷ field_columns_from (index + 1) fields

-- `_id`, and all fields in the schema's order
abbrev pub all_columns : List FieldValue → List Column
all_columns fields = column.Id ∷ field_columns_from 0 fields

abbrev pub no_field_error : List ℕ → List ℕ
no_field_error name = codes "No field " ++ name

abbrev pub or_no_field_error : List ℕ → Option Column → Result Column (List ℕ)
or_no_field_error name None = Err (no_field_error name)
or_no_field_error name (Some found) = Ok found

abbrev pub column_reading : List FieldValue → List ℕ → Result Column (List ℕ)
column_reading fields name = or_no_field_error name (column_of fields name)

-- the columns with these names, or the error for the first name that no column has
abbrev pub named_columns : List FieldValue → List (List ℕ) → Result (List Column) (List ℕ)
named_columns fields names = each_read (column_reading fields) names

-- the columns with a query's names; all columns if it gives no names
abbrev pub columns_reading : List FieldValue → Option (List (List ℕ)) → Result (List Column) (List ℕ)
columns_reading fields None = Ok (all_columns fields)
columns_reading fields (Some names) = named_columns fields names

-- ---- cells

-- An `_id` as a cell: an integer, or its digits as a text if it exceeds `i64`.
abbrev pub id_cell : ℕ → Cell
id_cell id = if nat_lt id (2 ^ 63) then cell.Int (pos id) else cell.Text (decimal id)

-- the cell of a row in a column
abbrev pub column_cell : Column → Row → Cell
column_cell column.Id row = id_cell row.id
column_cell (column.Field index) row = cell_at row.cells index

-- the cells of a row in these columns
abbrev pub projected : List Column → Row → List Cell
projected columns row = map (λ c. column_cell c row) columns
