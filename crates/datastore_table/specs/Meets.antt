-- Rows that meet a schema (Table Schema v1, "Constraints", "Primary key", "Foreign keys").
use Rattle.std.specs.Prelude.{ℕ, ◌+◌, ◌^◌, nat_lt, nat_le, Bool, true, false, ◌&&◌, ◌||◌, not, if◌then◌else◌, List, []}
use Rattle.std.specs.Prelude.{◌∷◌, map, Option, Some, None, is_none, pos, negsuc, int_le, unsigned_abs, IsTrue}
use Rattle.std.specs.List.{list_all, list_any}
use Rattle.lexical_forms.specs.Digits.{is_empty}
use Rattle.lexical_forms.specs.Number.{is_i64}
use Rattle.portal_base.specs.Moment.{first_moment, last_moment}
use Rattle.table_schema.specs.declared.cell.Cell.{Cell}
use Rattle.table_schema.specs.declared.cell.Cell.TheVariants as cell
use Rattle.table_schema.specs.declared.foreign.Foreign.{Foreign}
use Rattle.table_schema.specs.declared.form.Kind.{Kind}
use Rattle.table_schema.specs.Constraint.{constraint_fault}
use Rattle.table_schema.specs.Field.{FieldValue, SchemaValue}
use Rattle.table_schema.specs.Form.{kind_of}
use Rattle.table_schema.specs.Keys.{same_kind}
use Rattle.table_schema.specs.Reading.{kind_of_cell}
use Rattle.datastore_table.specs.declared.row.Row.{Row}
use Rattle.datastore_table.specs.Cells.{cell_at, cells_at, has_null_at, is_null}
use Rattle.datastore_table.specs.References.{is_broken, is_self}
use Rattle.datastore_table.specs.Rows.{has_cells, takes_cell}
use Rattle.datastore_table.specs.Table.{IsNumbered}

-- ---- one row

-- the cell is within the range of its type
abbrev pub is_value : Cell → Bool
is_value (cell.Int z) = is_i64 z
is_value (cell.Number billionths) = nat_lt (unsigned_abs billionths) (10 ^ 27)
is_value (cell.Date day) = int_le (negsuc 719527) day && int_le day (pos 2932896)
is_value (cell.Time second) = nat_lt second 86400
is_value (cell.Stamp seconds) = int_le first_moment seconds && int_le seconds last_moment
is_value (cell.Year year) = nat_le year 9999
is_value (cell.YearMonth year month) = nat_le year 9999 && (nat_le 1 month && nat_le month 12)
is_value other = true

abbrev pub is_of_kind : Kind → Option Kind → Bool
is_of_kind kind None = false
is_of_kind kind (Some own) = same_kind own kind

-- Null if the field isn't required; or a value of the field's type that meets its constraints
abbrev pub is_accepted : FieldValue → Cell → Bool
is_accepted field c =
    if is_null c then not field.constraints.required
    else is_of_kind (kind_of field.form) (kind_of_cell c)
    && (is_value c && is_none (constraint_fault field.constraints c))

-- one cell for each field, in the schema's order
abbrev pub are_accepted : List FieldValue → List Cell → Bool
are_accepted [] [] = true
are_accepted (field ∷ fields) (c ∷ cells) = is_accepted field c && are_accepted fields cells
are_accepted fields cells = false

-- The fields accept the row's cells, and no cell of the primary key is Null.
abbrev pub row_meets : SchemaValue → Row → Bool
row_meets schema row = are_accepted schema.fields row.cells && not (has_null_at schema.key row.cells)

-- ---- two rows

-- no row is like a later one
abbrev pub are_apart : (Row → Row → Bool) → List Row → Bool
are_apart like [] = true
are_apart like (row ∷ rows) = not (list_any (like row) rows) && are_apart like rows

-- Two rows have equal keys.
abbrev pub has_key_of : List ℕ → Row → Row → Bool
has_key_of key row other = has_cells key (cells_at key row.cells) other

-- no two rows have equal keys, where the schema has a key
abbrev pub keys_apart : List ℕ → List Row → Bool
keys_apart key rows = is_empty key || are_apart (has_key_of key) rows

-- Two rows have equal cells in this column, which aren't Null.
abbrev pub has_cell_of : ℕ → Row → Row → Bool
has_cell_of column row other =
    not (is_null (cell_at row.cells column)) && takes_cell None column (cell_at row.cells column) other

-- No two rows have equal cells other than Null in a unique field. The first of the fields has this column.
abbrev pub uniques_apart : ℕ → List FieldValue → List Row → Bool
uniques_apart column [] rows = true
uniques_apart column (field ∷ fields) rows =
    (not field.constraints.unique || are_apart (has_cell_of column) rows) && uniques_apart (column + 1) fields rows

-- ---- self references: foreign keys to the table itself

-- the foreign key is no self reference, or each row refers by it to a row of the table or to nothing
abbrev pub keeps_self_reference : List ℕ → List Row → Foreign → Bool
keeps_self_reference key rows foreign = not (is_self foreign)
    || list_all (λ row. not (is_broken foreign.fields key rows row)) rows

-- ---- the whole table

abbrev pub meets_schema : SchemaValue → List Row → Bool
meets_schema schema rows =
    list_all (row_meets schema) rows
    && (keys_apart schema.key rows
    && (uniques_apart 0 schema.fields rows && list_all (keeps_self_reference schema.key rows) schema.foreign))

-- The `_id`s ascend. Each is above `low` and below `next_id`.
abbrev pub ascend_from : ℕ → ℕ → List Row → Bool
ascend_from low next_id [] = true
ascend_from low next_id (row ∷ rows) =
    (nat_lt low row.id && nat_lt row.id next_id) && ascend_from row.id next_id rows

-- The `_id`s ascend. Each is at least 1 and below `next_id`, which is at least 1.
abbrev pub is_numbered : List Row → ℕ → Bool
is_numbered rows next_id = nat_le 1 next_id && ascend_from 0 next_id rows

abbrev pub row_of : ℕ × List Cell → Row
row_of pair = record { id = pair.0; cells = pair.1 }

-- the rows of these pairs of an `_id` and cells
abbrev pub rows_of : List (ℕ × List Cell) → List Row
rows_of pairs = map row_of pairs

-- A valid table of the schema can have these rows and this next `_id`.
abbrev pub is_restorable : SchemaValue → List Row → ℕ → Bool
is_restorable schema rows next_id = is_numbered rows next_id && meets_schema schema rows

-- The invariant of every table: its rows are numbered and meet the schema.
pub record IsTable (schema : SchemaValue) (rows : List Row) (next_id : ℕ) : Type 0 where
  pub numbered : IsNumbered rows next_id
  pub meets : IsTrue (meets_schema schema rows)
