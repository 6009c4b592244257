-- What contracts see of a table, and how its rows are numbered.
use Rattle.std.specs.Prelude.{◌≡◌, ◌<◌, ◌≤◌, ℕ, List, [], ◌∷◌}
use Rattle.portal_base.specs.Ordered.{IsAscending}
use Rattle.table_schema.specs.Field.{SchemaValue}
use Rattle.datastore_table.specs.declared.row.Row.{Row}
use Rattle.datastore_table.specs.Rows.{row_cmp}

-- A table: its schema, its rows in ascending order of their `_id`, the next `_id`, and the count of further rows for
-- which it has memory ready.
pub record TableValue : Type 0 where
  pub schema : SchemaValue
  pub rows : List Row
  pub next_id : ℕ
  pub room : ℕ

-- each `_id` is at least 1 and below this one
abbrev pub AreWithin : ℕ → List Row → Type 0
AreWithin next_id [] = Unit {0}
AreWithin next_id (row ∷ rows) = (1 ≤ row.id) × (row.id < next_id) × AreWithin next_id rows

-- The `_id`s ascend. Each is at least 1 and below the next one, which is at least 1.
pub record IsNumbered (rows : List Row) (next_id : ℕ) : Type 0 where
  pub ascending : IsAscending row_cmp rows
  pub within : AreWithin next_id rows
  pub next : 1 ≤ next_id

-- The two are the same table, apart from the memory that they have ready.
pub record IsSameTable (before after : TableValue) : Type 0 where
  pub schema : after.schema ≡ before.schema
  pub rows : after.rows ≡ before.rows
  pub next_id : after.next_id ≡ before.next_id
