-- Changes of the tables of resources, as data, and the tables after a change.
use Rattle.std.specs.Prelude.{ℕ, List, map, if◌then◌else◌, Result, Ok, Err}
use Rattle.portal_base.specs.declared.json_value.Json.{Json}
use Rattle.portal_base.specs.Ordered.{upserted, dropped}
use Rattle.datastore_table.specs.Batch.{cut_rows}
use Rattle.datastore_table.specs.Put.{Worked, put_records}
use Rattle.datastore_table.specs.declared.fault.TableFault.{TableFault}
use Rattle.datastore_table.specs.declared.method.Method.{Method}
use Rattle.datastore_answers.specs.Order.{at_address, is_at, table_cmp}
use Rattle.datastore_answers.specs.declared.address.Address.{Address}
use Rattle.datastore_answers.specs.declared.resource_table.ResourceTable.{ResourceTable}

-- A change: a table replaces the one at its address or is added; the table at an address is deleted; a batch of
-- records is put into the table at an address; the rows with these `_id`s are deleted from it.
pub data TableChange : Type 0 where
  Create : ResourceTable → TableChange
  Remove : Address → TableChange
  Put : Address → Method → List Json → TableChange
  DeleteRows : Address → List ℕ → TableChange

-- the table with these rows and this next `_id`
abbrev pub with_worked : ResourceTable → Result Worked TableFault → ResourceTable
with_worked t (Ok worked) = record t { table = record t.table { rows = worked.rows; next_id = worked.next_id } }
with_worked t (Err fault) = t

-- the table after a batch, unchanged if it refuses the batch
abbrev pub put_into : Method → List Json → ResourceTable → ResourceTable
put_into method records t = with_worked t (put_records method records t.table)

-- the table without the rows with these `_id`s
abbrev pub without_rows : List ℕ → ResourceTable → ResourceTable
without_rows ids t = record t { table = record t.table { rows = cut_rows ids t.table.rows } }

-- the tables, with only the one at the address changed
abbrev pub with_table_at : Address → (ResourceTable → ResourceTable) → List ResourceTable → List ResourceTable
with_table_at address make tables = map (λ t. if is_at address t then make t else t) tables

-- the tables after the change
abbrev pub changed_tables : TableChange → List ResourceTable → List ResourceTable
changed_tables (Create t) tables = upserted table_cmp t tables
changed_tables (Remove address) tables = dropped (at_address address) tables
changed_tables (Put address method records) tables = with_table_at address (put_into method records) tables
changed_tables (DeleteRows address ids) tables = with_table_at address (without_rows ids) tables
