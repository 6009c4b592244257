-- The entries of a planned change, given the view of its caller. What goes with something else is written out: the roles in an
-- organization that goes, the tables of resources that go, the rows of a table that goes, and the datasets and the jobs of
-- a source that goes.
use Rattle.std.specs.Prelude.{ℕ, List, [], ◌∷◌, ◌++◌, map, filter, Bool, ◌&&◌, not, Option, Some, None, Result, Ok, Err}
use Rattle.std.specs.List.{flat_map}
use Rattle.std.specs.Str.{bytes_eq}
use Rattle.portal_base.specs.declared.json_value.Json.{Json}
use Rattle.portal_base.specs.Ordered.{found}
use Rattle.datastore_table.specs.Batch as batch
use Rattle.datastore_table.specs.Put.{Worked, put_records}
use Rattle.datastore_table.specs.declared.fault.TableFault.{TableFault}
use Rattle.datastore_table.specs.declared.method.Method.{Method}
use Rattle.datastore_table.specs.declared.row.Row.{Row}
use Rattle.org_roles.specs.declared.change.OrgChange.{OrgChange}
use Rattle.org_roles.specs.declared.change.OrgChange.TheVariants as org
use Rattle.org_roles.specs.declared.entry.Membership.{Membership}
use Rattle.packages.specs.declared.package.Package.{Package}
use Rattle.packages.specs.declared.package.Resource.{Resource}
use Rattle.visibility.specs.TableSummary.{is_among}
use Rattle.dataset_answers.specs.Edits.{edit_of}
use Rattle.dataset_answers.specs.declared.change.DatasetChange.{DatasetChange}
use Rattle.dataset_answers.specs.declared.change.DatasetChange.TheVariants as dataset
use Rattle.datastore_answers.specs.Changed.{TableChange}
use Rattle.datastore_answers.specs.Changed as table
use Rattle.datastore_answers.specs.Order.{at_address}
use Rattle.datastore_answers.specs.declared.resource_table.ResourceTable.{ResourceTable}
use Rattle.harvest_results.specs.Effects.{is_of_source}
use Rattle.harvest_sources.specs.Entries.{entries_of_change}
use Rattle.harvest_sources.specs.Sources.{SourceState}
use Rattle.harvest_sources.specs.declared.change.SourceChange.{SourceChange}
use Rattle.harvest_sources.specs.declared.change.SourceChange.TheVariants as source
use Rattle.portal_state.specs.Entries.{TableHead, Entry, PutOrg, DropOrg, PutRole, DropRole, PutDataset, EditDataset}
use Rattle.portal_state.specs.Entries.{DropDataset, PutTable, DropTable, PutRow, DropRow, OfSources}

-- ---- organizations and roles

-- the roles in that organization
abbrev pub roles_in : List ℕ → List Membership → List Membership
roles_in name roles = filter (λ m. bytes_eq m.org name) roles

abbrev pub drop_of_role : Membership → Entry
drop_of_role role = DropRole role.org role.user

-- the entries of a change of people, among these roles
abbrev pub entries_of_people : OrgChange → List Membership → List Entry
entries_of_people (org.Create o) roles = PutOrg o ∷ []
entries_of_people (org.Patch o) roles = PutOrg o ∷ []
entries_of_people (org.Remove name) roles = map drop_of_role (roles_in name roles) ++ DropOrg name ∷ []
entries_of_people (org.SetRole name user role) roles = PutRole (record { org = name; user = user; role = role }) ∷ []
entries_of_people (org.DropRole name user) roles = DropRole name user ∷ []

-- ---- datasets

abbrev pub ids_of : List Row → List ℕ
ids_of rows = map (λ row. row.id) rows

-- a table goes after its rows
abbrev pub drops_of_table : ResourceTable → List Entry
drops_of_table t = map (DropRow t.address) (ids_of t.table.rows) ++ DropTable t.address ∷ []

-- the table belongs to the dataset of that id, and to none of these resources
abbrev pub is_gone : List ℕ → List Resource → ResourceTable → Bool
is_gone id resources t = bytes_eq t.address.dataset id && not (is_among resources t.address.number)

-- the tables that go where the dataset of that id keeps only these resources
abbrev pub tables_gone : List ℕ → List Resource → List ResourceTable → List ResourceTable
tables_gone id resources tables = filter (is_gone id resources) tables

-- the entries of a change of datasets, among these tables
abbrev pub entries_of_datasets : DatasetChange → List ResourceTable → List Entry
entries_of_datasets (dataset.Create d) tables = PutDataset d ∷ []
entries_of_datasets (dataset.Replace d) tables =
    flat_map drops_of_table (tables_gone d.id d.resources tables) ++ EditDataset d.id (edit_of d) ∷ []
entries_of_datasets (dataset.Remove id) tables =
    flat_map drops_of_table (tables_gone id [] tables) ++ DropDataset id ∷ []

-- ---- tables

-- the head of the table, with this next `_id`
abbrev pub head_with : ResourceTable → ℕ → TableHead
head_with t next_id = record { address = t.address; targets = t.targets; schema = t.table.schema; next_id = next_id }

abbrev pub head_of : ResourceTable → TableHead
head_of t = head_with t t.table.next_id

-- a table's head, and then its rows
abbrev pub puts_of_table : ResourceTable → List Entry
puts_of_table t = PutTable (head_of t) ∷ map (PutRow t.address) t.table.rows

-- the rows that a batch wrote, as they are after it
abbrev pub rows_written : Worked → List Row
rows_written worked = filter (λ row. batch.is_among worked.written row.id) worked.rows

-- The entries of a batch: the table's head with the next `_id` after it, and the rows that it wrote. A batch that is
-- refused has none.
abbrev pub entries_of_batch : ResourceTable → Result Worked TableFault → List Entry
entries_of_batch t (Ok worked) = PutTable (head_with t worked.next_id) ∷ map (PutRow t.address) (rows_written worked)
entries_of_batch t (Err fault) = []

-- the drops of the table, if there is one
abbrev pub drops_of : Option ResourceTable → List Entry
drops_of None = []
drops_of (Some t) = drops_of_table t

-- the entries of a batch on the table, if there is one
abbrev pub puts_of : Method → List Json → Option ResourceTable → List Entry
puts_of method records None = []
puts_of method records (Some t) = entries_of_batch t (put_records method records t.table)

-- the entries of a change of tables, among these tables
abbrev pub entries_of_tables : TableChange → List ResourceTable → List Entry
entries_of_tables (table.Create t) tables = puts_of_table t
entries_of_tables (table.Remove address) tables = drops_of (found (at_address address) tables)
entries_of_tables (table.Put address method records) tables =
    puts_of method records (found (at_address address) tables)
entries_of_tables (table.DeleteRows address ids) tables = map (DropRow address) ids

-- ---- sources and jobs

abbrev pub drop_of_dataset : Package → Entry
drop_of_dataset d = DropDataset d.id

-- of these datasets, those that go with a change of sources: those of a source that goes
abbrev pub datasets_gone : SourceChange → List Package → List Package
datasets_gone (source.Create new) datasets = []
datasets_gone (source.Update name title url) datasets = []
datasets_gone (source.Remove name) datasets = filter (is_of_source name) datasets
datasets_gone (source.AddJob name created) datasets = []

-- the entries of a change of sources, among these sources and datasets
abbrev pub entries_of_sources : SourceChange → List SourceState → List Package → List Entry
entries_of_sources change sources datasets =
    map drop_of_dataset (datasets_gone change datasets) ++ map OfSources (entries_of_change change sources)
