-- The foreign keys of a resource's table to tables of other resources of its dataset.
use Rattle.std.specs.Prelude.{ℕ, ◌+◌, Bool, true, ◌&&◌, ◌||◌, not, if◌then◌else◌, List, [], ◌∷◌, Option, Some, None}
use Rattle.std.specs.Prelude.{IsTrue, Result, Ok, Err, slice_get, option_and_then}
use Rattle.std.specs.List.{list_all}
use Rattle.portal_base.specs.declared.json_value.Json.{Json}
use Rattle.datastore_table.specs.Batch.{Written}
use Rattle.datastore_table.specs.Put.{Worked, put_records}
use Rattle.datastore_table.specs.References.{foreign_checked, is_broken, is_self}
use Rattle.datastore_table.specs.Results.{◌>>>◌, in_turn}
use Rattle.datastore_table.specs.declared.fault.TableFault.{TableFault}
use Rattle.datastore_table.specs.declared.fault.TableFault.TheVariants.{OutOfMemory}
use Rattle.datastore_table.specs.declared.method.Method.{Method}
use Rattle.datastore_table.specs.declared.row.Row.{Row}
use Rattle.datastore_answers.specs.Tables.{table_at, tables_in}
use Rattle.datastore_answers.specs.declared.resource_table.ResourceTable.{ResourceTable}
use Rattle.table_schema.specs.declared.foreign.Foreign.{Foreign}

-- ---- referenced tables

-- The table, among the dataset's tables, that the foreign key with this index references. The index counts from 0.
abbrev pub target_of : List ResourceTable → ResourceTable → ℕ → Option ResourceTable
target_of beside t index = option_and_then (λ number. table_at number beside) (slice_get t.targets index)

-- Each row that one of the records wrote references, by the foreign key, a row that exists.
abbrev pub target_checked : Option ResourceTable → Foreign → Worked → Result (Unit {0}) TableFault
target_checked None foreign worked = Ok tt
target_checked (Some target) foreign worked =
    foreign_checked foreign.fields target.table.schema.key target.table.rows worked.rows worked.written

abbrev pub link_checked : List ResourceTable → ResourceTable → Worked → ℕ → Foreign → Unit {0}
    → Result (Unit {0}) TableFault
link_checked beside t worked index foreign u =
    if is_self foreign then Ok tt else target_checked (target_of beside t index) foreign worked

-- the foreign keys to other tables, in the schema's order
abbrev pub links_checked : List ResourceTable → ResourceTable → Worked → Result (Unit {0}) TableFault
links_checked beside t worked = in_turn (link_checked beside t worked) 0 t.table.schema.foreign tt

-- the rows that a batch writes, without the table's other rows
abbrev pub alone : Written → Worked
alone work = record { rows = work.changed; next_id = work.next_id; written = work.written }

-- The result of a batch on a table, among the tables of its dataset, or the fault that refuses it: the table's own
-- fault first, and then that of its references to other tables.
abbrev pub put_among : List ResourceTable → Method → List Json → ResourceTable → Result Worked TableFault
put_among beside method records t =
    put_records method records t.table >>> λ worked. (links_checked beside t worked >>> λ _. Ok worked)

abbrev pub put_for : List ResourceTable → Method → List Json → Option ResourceTable → Result Worked TableFault
put_for beside method records None = Err OutOfMemory
put_for beside method records (Some t) = put_among beside method records t

-- the same for the table of the resource with this number, if it exists
abbrev pub put_at : List ResourceTable → ℕ → Method → List Json → Result Worked TableFault
put_at beside number method records = put_for beside method records (table_at number beside)

-- the result of a batch on a table alone, if it exists
abbrev pub put_own : Method → List Json → Option ResourceTable → Result Worked TableFault
put_own method records None = Err OutOfMemory
put_own method records (Some t) = put_records method records t.table

-- ---- tables whose references hold

-- each reference of the rows, by the foreign key, finds its row
abbrev pub holds_in : Option ResourceTable → Foreign → List Row → Bool
holds_in None foreign rows = true
holds_in (Some target) foreign rows =
    list_all (λ row. not (is_broken foreign.fields target.table.schema.key target.table.rows row)) rows

-- The table's references to other tables of the dataset hold by these foreign keys, the first of which has this
-- index.
abbrev pub links_hold : List ResourceTable → ResourceTable → ℕ → List Foreign → Bool
links_hold beside t index [] = true
links_hold beside t index (foreign ∷ foreigns) =
    (is_self foreign || holds_in (target_of beside t index) foreign t.table.rows)
    && links_hold beside t (index + 1) foreigns

abbrev pub is_linked : List ResourceTable → ResourceTable → Bool
is_linked beside t = links_hold beside t 0 t.table.schema.foreign

-- this holds of all tables
abbrev pub are_linked : List ResourceTable → Bool
are_linked tables = list_all (λ t. is_linked (tables_in t.address.dataset tables) t) tables

abbrev pub AreLinked : List ResourceTable → Type 0
AreLinked tables = IsTrue (are_linked tables)
