-- Restrictions on deletions: a table or a row that another table of the dataset references can't be deleted.
use Rattle.std.specs.Prelude.{ℕ, ◌==◌, Bool, false, ◌&&◌, not, if◌then◌else◌, List, [], ◌∷◌, Option, Some, None}
use Rattle.std.specs.Prelude.{Result, Ok, Err, slice_get}
use Rattle.std.specs.List.{list_any}
use Rattle.table_schema.specs.declared.foreign.Foreign.{Foreign}
use Rattle.datastore_table.specs.Batch.{delete_checked, referred_checked, removed_keys}
use Rattle.datastore_table.specs.References.{is_self}
use Rattle.datastore_table.specs.Results.{◌>>>◌, in_turn}
use Rattle.datastore_table.specs.declared.fault.TableFault.{TableFault}
use Rattle.datastore_table.specs.declared.fault.TableFault.TheVariants.{OutOfMemory}
use Rattle.datastore_table.specs.declared.row.Row.{Row}
use Rattle.datastore_answers.specs.Tables.{table_at}
use Rattle.datastore_answers.specs.declared.resource_table.ResourceTable.{ResourceTable}

-- ---- tables

-- this is the table of another resource, with a foreign key that references the resource with this number
abbrev pub refers_to : ℕ → ResourceTable → Bool
refers_to number u = not (u.address.number == number) && list_any (λ n. n == number) u.targets

-- one of the dataset's tables is such a table
abbrev pub is_referenced : ℕ → List ResourceTable → Bool
is_referenced number beside = list_any (refers_to number) beside

-- ---- rows

abbrev pub is_number : ℕ → Option ℕ → Bool
is_number number None = false
is_number number (Some n) = n == number

-- By the foreign key with this index of another table, no row references a deleted row. The key may reference another
-- resource than the one with this number; then nothing is checked.
abbrev pub key_restrict : List Row → ℕ → ResourceTable → ℕ → Foreign → Unit {0} → Result (Unit {0}) TableFault
key_restrict keys number u index foreign v =
    if is_self foreign then Ok tt
    else if is_number number (slice_get u.targets index) then referred_checked foreign.fields keys u.table.rows
    else Ok tt

abbrev pub table_restrict : List Row → ℕ → ResourceTable → Result (Unit {0}) TableFault
table_restrict keys number u =
    if u.address.number == number then Ok tt
    else in_turn (key_restrict keys number u) 0 u.table.schema.foreign tt

-- the tables one after another, by the numbers of their resources
abbrev pub tables_restrict : List Row → ℕ → List ResourceTable → Result (Unit {0}) TableFault
tables_restrict keys number [] = Ok tt
tables_restrict keys number (u ∷ us) = table_restrict keys number u >>> λ _. tables_restrict keys number us

-- Whether the rows with these `_id`s can be deleted from the table of the resource with this number. The table's
-- references to itself are checked first, and then those of the other tables.
abbrev pub delete_among : List ResourceTable → ℕ → List ℕ → ResourceTable → Result (Unit {0}) TableFault
delete_among beside number ids t =
    delete_checked ids t.table >>> λ _. tables_restrict (removed_keys t.table.schema.key ids t.table.rows) number beside

abbrev pub delete_for : List ResourceTable → ℕ → List ℕ → Option ResourceTable → Result (Unit {0}) TableFault
delete_for beside number ids None = Err OutOfMemory
delete_for beside number ids (Some t) = delete_among beside number ids t

-- the same, if the table exists
abbrev pub delete_at : List ResourceTable → ℕ → List ℕ → Result (Unit {0}) TableFault
delete_at beside number ids = delete_for beside number ids (table_at number beside)

-- by the table's references to itself alone
abbrev pub delete_own : List ℕ → Option ResourceTable → Result (Unit {0}) TableFault
delete_own ids None = Err OutOfMemory
delete_own ids (Some t) = delete_checked ids t.table
