-- What contracts see of a prepared batch and of a prepared removal.
use Rattle.std.specs.Prelude.{◌≡◌, ◌≤◌, ℕ, ◌==◌, Bool, ◌&&◌, not, if◌then◌else◌, List, map, filter}
use Rattle.std.specs.Prelude.{find, length, Option, Some, None, Result, Ok, Err}
use Rattle.std.specs.List.{list_any}
use Rattle.table_schema.specs.declared.foreign.Foreign.{Foreign}
use Rattle.table_schema.specs.Field.{SchemaValue}
use Rattle.datastore_table.specs.declared.fault.TableFault.{TableFault}
use Rattle.datastore_table.specs.declared.fault.TableFault.TheVariants as fault
use Rattle.datastore_table.specs.declared.row.Row.{Row}
use Rattle.datastore_table.specs.Cells.{cells_at, same_cells}
use Rattle.datastore_table.specs.Meets.{IsTable}
use Rattle.datastore_table.specs.Put.{Worked}
use Rattle.datastore_table.specs.References.{is_self, refers}
use Rattle.datastore_table.specs.Results.{in_turn}
use Rattle.datastore_table.specs.Rows.{has_id, rows_after}
use Rattle.datastore_table.specs.Table.{TableValue}

-- What a batch writes: the written rows after it, in ascending order of their `_id`, the next `_id` after it, and the
-- `_id` of the row that each of its records wrote.
pub record Written : Type 0 where
  pub changed : List Row
  pub next_id : ℕ
  pub written : List ℕ

-- the state of these rows after the batch has written
abbrev pub worked_on : List Row → Written → Worked
worked_on rows work = record {
  rows = rows_after work.changed rows;
  next_id = work.next_id;
  written = work.written;
}

-- the `_id` is one of these
abbrev pub is_among : List ℕ → ℕ → Bool
is_among ids id = list_any (λ i. i == id) ids

-- the two lists have the same `_id`s
abbrev pub HaveSame : List ℕ → List ℕ → Type 0
HaveSame ids others = (id : ℕ) → is_among ids id ≡ is_among others id

-- The rows have exactly these `_id`s: each row has one of them, and each of them belongs to a row.
abbrev pub AreThoseOf : List ℕ → List Row → Type 0
AreThoseOf ids rows = (id : ℕ) → list_any (has_id id) rows ≡ is_among ids id

-- A prepared batch, with the table's schema.
pub record BatchValue : Type 0 where
  pub schema : SchemaValue
  pub work : Written

-- The batch can be committed to this table: memory is ready for it, and the table is valid afterwards.
pub record IsReady (batch : BatchValue) (table : TableValue) : Type 0 where
  pub room : length batch.work.changed ≤ table.room
  pub whole : IsTable table.schema (rows_after batch.work.changed table.rows) batch.work.next_id

-- ---- deletion

-- the remaining rows: those with none of these `_id`s
abbrev pub cut_rows : List ℕ → List Row → List Row
cut_rows ids rows = filter (λ row. not (is_among ids row.id)) rows

-- a deleted row with only the cells of its key
abbrev pub key_row : List ℕ → Row → Row
key_row key row = record { id = row.id; cells = cells_at key row.cells }

-- the deleted rows, each with only the cells of its key
abbrev pub removed_keys : List ℕ → List ℕ → List Row → List Row
removed_keys key ids rows = map (key_row key) (filter (λ row. is_among ids row.id) rows)

-- A prepared removal: the `_id`s to delete, and the deleted rows, each with only the cells of its key.
pub record RemovalValue : Type 0 where
  pub ids : List ℕ
  pub keys : List Row

-- the row refers by these columns to the row with this key
abbrev pub refers_to : List ℕ → Row → Row → Bool
refers_to columns key row = refers columns row && same_cells (cells_at columns row.cells) key.cells

abbrev pub referred_fault : Option Row → Result (Unit {0}) TableFault
referred_fault None = Ok tt
referred_fault (Some row) = Err (fault.Referred row.id)

-- The check of one foreign key: the fault has the first of the keys that one of these rows refers to.
abbrev pub referred_checked : List ℕ → List Row → List Row → Result (Unit {0}) TableFault
referred_checked columns keys rows =
    referred_fault (find (λ key. list_any (refers_to columns key) rows) keys)

abbrev pub self_reference_restricted : List Row → List Row → ℕ → Foreign → Unit {0} → Result (Unit {0}) TableFault
self_reference_restricted keys rows number foreign u =
    if is_self foreign then referred_checked foreign.fields keys rows else Ok tt

-- the check of each self reference in the schema's order, for deleted rows with these keys and these remaining rows
abbrev pub self_references_restricted : List Foreign → List Row → List Row → Result (Unit {0}) TableFault
self_references_restricted foreign keys rows = in_turn (self_reference_restricted keys rows) 0 foreign tt

-- The check of a deletion: the fault of the first self reference by which a remaining row refers to a deleted one.
abbrev pub delete_checked : List ℕ → TableValue → Result (Unit {0}) TableFault
delete_checked ids table =
    self_references_restricted table.schema.foreign (removed_keys table.schema.key ids table.rows)
    (cut_rows ids table.rows)
