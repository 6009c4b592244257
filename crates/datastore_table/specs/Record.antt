-- How the records of a batch are read by a table's schema.
use Rattle.std.specs.Prelude.{ℕ, Bool, true, ◌||◌, not, if◌then◌else◌, List, [], map, fold, codes}
use Rattle.std.specs.Prelude.{slice_get, Option, Some, None, Result, Ok, Err}
use Rattle.std.specs.List.{list_any}
use Rattle.std.specs.Str.{bytes_eq}
use Rattle.std.specs.Ordering.{nat_cmp, is_lt}
use Rattle.std.specs.Cmp.Lexicographic.{slice_cmp}
use Rattle.portal_base.specs.declared.json_value.Json.{Json, out-Json}
use Rattle.portal_base.specs.declared.json_value.Json.TheOpen.{Json-F}
use Rattle.portal_base.specs.Json.{member_of}
use Rattle.table_schema.specs.declared.cell.Cell.{Cell}
use Rattle.table_schema.specs.declared.cell.Cell.TheVariants as cell
use Rattle.table_schema.specs.declared.cell.CellFault.{CellFault}
use Rattle.table_schema.specs.Field.{FieldValue, SchemaValue}
use Rattle.table_schema.specs.Reading.{null_reading, record_reading}
use Rattle.datastore_table.specs.declared.fault.TableFault.{TableFault}
use Rattle.datastore_table.specs.declared.fault.TableFault.TheVariants as fault
use Rattle.datastore_table.specs.Results.{each_ok}

-- ---- its cells

-- The cell of a field. If the record lacks the field, it is the kept cell, or what the field reads for Null.
abbrev pub field_reading : FieldValue → Option Cell → Option Json → Result Cell CellFault
field_reading field kept (Some value) = record_reading field value
field_reading field (Some cell) None = Ok cell
field_reading field None None = null_reading field.constraints.required

abbrev pub or_cell_fault : ℕ → FieldValue → Result Cell CellFault → Result Cell TableFault
or_cell_fault number field (Ok cell) = Ok cell
or_cell_fault number field (Err why) = Err (fault.Cell number field.name why)

abbrev pub kept_at : Option (List Cell) → ℕ → Option Cell
kept_at None column = None
kept_at (Some cells) column = slice_get cells column

abbrev pub cell_reading : ℕ → Option (List Cell) → Json → ℕ → FieldValue → Result Cell TableFault
cell_reading number kept given column field =
    or_cell_fault number field (field_reading field (kept_at kept column) (member_of field.name given))

-- The cells of the record with this number, in the schema's order, or the fault of the first that is invalid.
abbrev pub cells_reading : ℕ → List FieldValue → Option (List Cell) → Json → Result (List Cell) TableFault
cells_reading number fields kept given = each_ok (cell_reading number kept given) 0 fields

-- ---- its key

-- the cell of a value, or Null if the value is invalid
abbrev pub read_or_null : Result Cell CellFault → Cell
read_or_null (Ok c) = c
read_or_null (Err why) = cell.Null

abbrev pub value_or_null : FieldValue → Option Json → Cell
value_or_null field None = cell.Null
value_or_null field (Some value) = read_or_null (record_reading field value)

abbrev pub key_cell_in : Option FieldValue → Json → Cell
key_cell_in None given = cell.Null
key_cell_in (Some field) given = value_or_null field (member_of field.name given)

abbrev pub key_cell : List FieldValue → Json → ℕ → Cell
key_cell fields given column = key_cell_in (slice_get fields column) given

-- The record's primary key. A cell is Null if the record lacks its field or has an invalid value there.
abbrev pub key_of : SchemaValue → Json → List Cell
key_of schema given = map (key_cell schema.fields given) schema.key

-- ---- its names that no field has

abbrev pub entries_of : Json-F Json → List (List ℕ × Json)
entries_of (Json-F.Map entries) = entries
entries_of other = []

abbrev pub is_field_name : List FieldValue → List ℕ → Bool
is_field_name fields name = list_any (λ (field : FieldValue). bytes_eq field.name name) fields

-- a field's name or `_id`, which is ignored
abbrev pub is_known : List FieldValue → List ℕ → Bool
is_known fields name = bytes_eq name (codes "_id") || is_field_name fields name

abbrev pub is_earlier : List ℕ → Option (List ℕ) → Bool
is_earlier name None = true
is_earlier name (Some least) = is_lt (slice_cmp nat_cmp name least)

abbrev pub least_unknown : List FieldValue → Option (List ℕ) → List ℕ × Json → Option (List ℕ)
least_unknown fields least entry =
    if not (is_known fields entry.0) then if is_earlier entry.0 least then Some entry.0 else least else least

-- the least unknown name of the record, in the order of bytes
abbrev pub unknown_in : List FieldValue → Json → Option (List ℕ)
unknown_in fields given = fold (least_unknown fields) None (entries_of (out-Json given))
