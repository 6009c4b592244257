-- The rules that the rows of a table keep, said of each row and of any two rows (Table Schema v1, "Constraints",
-- "Primary key", "Foreign keys"). A column is the index of a field, from 0, and the values of a row in some columns are
-- the list of its cells there.
use Rattle.std.specs.Prelude.{◌≡◌, ◌<◌, ◌≤◌, ℕ, true, List, [], Some, AllPairs, Contains, length, slice_get}
use Rattle.table_schema.specs.declared.cell.Cell.{Cell}
use Rattle.table_schema.specs.declared.cell.Cell.TheVariants as cell
use Rattle.table_schema.specs.declared.foreign.Foreign.{Foreign}
use Rattle.table_schema.specs.Field.{FieldValue, SchemaValue}
use Rattle.table_schema.specs.Reading.{Accepts}
use Rattle.datastore_table.specs.declared.row.Row.{Row}
use Rattle.datastore_table.specs.Cells.{cell_at, cells_at}
use Rattle.datastore_table.specs.Meets.{is_value}

-- ---- each row

-- There is one cell for each field. The field accepts it, and it is within the range of its type.
pub record CellsFit (fields : List FieldValue) (cells : List Cell) : Type 0 where
  pub count : length cells ≡ length fields
  pub accepted : (column : ℕ) (field : FieldValue) → slice_get fields column ≡ Some field
      → Accepts field (cell_at cells column) × (is_value (cell_at cells column) ≡ true)

-- No cell in these columns is Null.
abbrev pub HasNoNull : List ℕ → Row → Type 0
HasNoNull columns row = (column : ℕ) → Contains columns column → cell_at row.cells column ≡ cell.Null → ⊥

-- Each row fits the fields.
abbrev pub RowsFit : List FieldValue → List Row → Type 0
RowsFit fields rows = (row : Row) → Contains rows row → CellsFit fields row.cells

-- ---- the primary key

-- No row has Null in its key, and no two rows have the same key. Where the schema has no key, rows may be alike.
pub record KeysTellApart (key : List ℕ) (rows : List Row) : Type 0 where
  pub full : (row : Row) → Contains rows row → HasNoNull key row
  pub apart : (key ≡ [] → ⊥) → AllPairs (λ a b. cells_at key a.cells ≡ cells_at key b.cells → ⊥) rows

-- ---- unique fields

-- The two rows have the same cell in this column, other than Null.
pub record ShareValue (column : ℕ) (a b : Row) : Type 0 where
  pub same : cell_at a.cells column ≡ cell_at b.cells column
  pub some : cell_at a.cells column ≡ cell.Null → ⊥

-- In the column of each unique field, no two rows have the same cell other than Null.
abbrev pub UniquesDiffer : List FieldValue → List Row → Type 0
UniquesDiffer fields rows =
    (column : ℕ) (field : FieldValue) → slice_get fields column ≡ Some field → field.constraints.unique ≡ true
    → AllPairs (λ a b. ShareValue column a b → ⊥) rows

-- ---- self references: foreign keys to the table itself, which name no resource

-- The row has in these columns the key of one of the rows.
pub record FindsKey (columns key : List ℕ) (rows : List Row) (row : Row) : Type 0 where
  pub found : Row
  pub there : Contains rows found
  pub same : cells_at key found.cells ≡ cells_at columns row.cells

-- By each self reference that has columns, each row finds a row of the table, unless it has Null in one of them.
abbrev pub ReferencesFind : SchemaValue → List Row → Type 0
ReferencesFind schema rows =
    (foreign : Foreign) → Contains schema.foreign foreign → foreign.resource ≡ [] → (foreign.fields ≡ [] → ⊥)
    → (row : Row) → Contains rows row → HasNoNull foreign.fields row → FindsKey foreign.fields schema.key rows row

-- ---- numbers

-- Of any two rows, the earlier has the lesser `_id`. Each `_id` is at least 1 and below the next one.
pub record NumbersAscend (rows : List Row) (next_id : ℕ) : Type 0 where
  pub ascending : AllPairs (λ a b. a.id < b.id) rows
  pub within : (row : Row) → Contains rows row → (1 ≤ row.id) × (row.id < next_id)
  pub next : 1 ≤ next_id

-- ---- all rules

-- The rows with this next `_id` keep all rules of the schema.
pub record KeepRules (schema : SchemaValue) (rows : List Row) (next_id : ℕ) : Type 0 where
  pub fields : RowsFit schema.fields rows
  pub keys : KeysTellApart schema.key rows
  pub uniques : UniquesDiffer schema.fields rows
  pub references : ReferencesFind schema rows
  pub numbers : NumbersAscend rows next_id
