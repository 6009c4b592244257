-- The rows of tables. A table has one row that describes it, and one row for each of its own rows.
use Rattle.std.specs.Prelude.{◌≡◌, ◌<◌, ◌^◌, ◌-◌, ℕ, List, [], ◌∷◌, ◌++◌, All, IsTrue, codes, decimal, length, map, pos}
use Rattle.std.specs.Prelude.{replicate, take}
use Rattle.datastore_table.specs.Meets.{are_accepted}
use Rattle.datastore_table.specs.Table.{TableValue}
use Rattle.datastore_table.specs.declared.row.Row.{Row}
use Rattle.portal_base.specs.Json.{json_text}
use Rattle.portal_base.specs.declared.json_value.Json as json
use Rattle.portal_base.specs.declared.json_value.Json.{Json}
use Rattle.portal_keeper.specs.declared.row.KeptRow.{KeptRow}
use Rattle.portal_keeper.specs.declared.row.RowKind.TheVariants as kind
use Rattle.table_schema.specs.Field.{SchemaValue}
use Rattle.table_schema.specs.Printed.{cell_value}
use Rattle.table_schema.specs.Written.{IsDescribed, schema_value}
use Rattle.table_schema.specs.declared.cell.Cell.{Cell}
use Rattle.portal_rows.specs.JsonRow.{json_row}
use Rattle.portal_rows.specs.declared.tables.TableHead.{TableHead}

-- ---- the row of a table

abbrev pub number_value : ℕ → Json
number_value n = json.Whole (pos n)

-- The body: the `_id` of the next row, the descriptor of the schema, and for each foreign key the number of the resource
-- whose table it refers to. The number is 0 for the table itself.
abbrev pub head_value : TableHead → Json
head_value head = json.Map (
    (codes "next_id", number_value head.next_id)
    ∷ (codes "schema", schema_value head.schema)
    ∷ (codes "targets", json.List (map number_value head.targets))
    ∷ [])

-- the row of the table of the resource with this id
abbrev pub table_row : List ℕ → TableHead → KeptRow
table_row resource head = json_row kind.Table resource (head_value head)

-- ---- the row of a row

-- the decimal digits of the number, with zeros in front of them to 20 digits
unfoldable pub twenty_digits : ℕ → List ℕ
twenty_digits n = replicate (20 - length (decimal n)) 48 ++ decimal n

-- the resource's id, `/`, and the `_id` in 20 digits
abbrev pub row_key : List ℕ → ℕ → List ℕ
row_key resource id = resource ++ codes "/" ++ twenty_digits id

-- the key without its last 21 bytes: the id of the resource in the key of a row
abbrev pub resource_of_key : List ℕ → List ℕ
resource_of_key key = take (length key - 21) key

-- the list of the printed cells
abbrev pub cells_value : List Cell → Json
cells_value cells = json.List (map cell_value cells)

-- the row of a row of the table of that resource
abbrev pub cells_row : List ℕ → Row → KeptRow
cells_row resource row = json_row kind.Row (row_key resource row.id) (cells_value row.cells)

-- ---- all rows of a table

-- what the row of the table says, where its foreign keys have these targets
abbrev pub head_of : TableValue → List ℕ → TableHead
head_of table targets = record { schema = table.schema; next_id = table.next_id; targets = targets }

-- the row of the table, and then those of its rows, in their order
abbrev pub rows_of_table : List ℕ → TableValue → List ℕ → List KeptRow
rows_of_table resource table targets =
    table_row resource (head_of table targets) ∷ map (cells_row resource) table.rows

-- ---- rows that are read

-- A schema that its own descriptor describes, and numbers of the size that they have in a table.
pub record IsHead (head : TableHead) : Type 0 where
  pub described : IsDescribed head.schema
  pub next_id : head.next_id < 2 ^ 64
  pub targets : All (λ n. n < 2 ^ 32) head.targets

-- The row is that of a table with this head. Its key is the id of the table's resource.
abbrev pub IsTableRow : TableHead → KeptRow → Type 0
IsTableRow head row = IsHead head × (row ≡ table_row row.key head)

-- The body is that of this head.
abbrev pub IsHeadBody : TableHead → List ℕ → Type 0
IsHeadBody head body = IsHead head × (body ≡ json_text (head_value head))

-- The body is that of cells which the fields of the schema accept, one cell for each field.
abbrev pub IsCellsBody : SchemaValue → List Cell → List ℕ → Type 0
IsCellsBody schema cells body = IsTrue (are_accepted schema.fields cells) × (body ≡ json_text (cells_value cells))
