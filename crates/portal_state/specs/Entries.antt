-- The entries of the portal's state. Each is put under its key, or dropped by its key. Nothing goes because something
-- else goes: whatever goes has an entry of its own.
use Rattle.std.specs.Prelude.{ℕ, List, [], ◌∷◌, map, if◌then◌else◌, Option, Some, None}
use Rattle.std.specs.declared.cmp.Ordering.{Ordering}
use Rattle.std.specs.Ordering.{nat_cmp}
use Rattle.std.specs.Str.{bytes_eq}
use Rattle.portal_base.specs.Ordered.{upserted, dropped, found}
use Rattle.table_schema.specs.Field.{SchemaValue}
use Rattle.datastore_table.specs.Rows.{row_cmp}
use Rattle.datastore_table.specs.declared.row.Row.{Row}
use Rattle.org_roles.specs.Changed.{with_org, with_role, without_role}
use Rattle.org_roles.specs.Order.{org_at}
use Rattle.org_roles.specs.PeopleLists.{PeopleLists}
use Rattle.org_roles.specs.declared.entry.Membership.{Membership}
use Rattle.org_roles.specs.declared.entry.Org.{Org}
use Rattle.packages.specs.Order.{dataset_cmp}
use Rattle.packages.specs.declared.package.Package.{Package}
use Rattle.dataset_answers.specs.Changed.{dataset_at_id}
use Rattle.dataset_answers.specs.Edits.{DatasetEdit, edited}
use Rattle.datastore_answers.specs.Changed.{with_table_at}
use Rattle.datastore_answers.specs.Order.{at_address, table_cmp}
use Rattle.datastore_answers.specs.declared.address.Address.{Address}
use Rattle.datastore_answers.specs.declared.resource_table.ResourceTable.{ResourceTable}
use Rattle.harvest_sources.specs.Entries.{SourceEntry}
use Rattle.harvest_sources.specs.Entries.{changed_by as sources_changed_by}
use Rattle.portal_state.specs.State.{State}

-- ---- entries

-- what a table has beside its rows
pub record TableHead : Type 0 where
  pub address : Address
  pub targets : List ℕ
  pub schema : SchemaValue
  pub next_id : ℕ

-- The key of an organization is its name, of a role its organization and user, of a dataset its id, of a table its
-- address, and of a row its table's address and its `_id`. A dataset is put whole when it is new. An edit says what it sets
-- of the dataset with that id, and leaves the rest. The entries of sources and jobs have keys of their own.
pub data Entry : Type 0 where
  PutOrg : Org → Entry
  DropOrg : List ℕ → Entry
  PutRole : Membership → Entry
  DropRole : List ℕ → List ℕ → Entry
  PutDataset : Package → Entry
  EditDataset : List ℕ → DatasetEdit → Entry
  DropDataset : List ℕ → Entry
  PutTable : TableHead → Entry
  DropTable : Address → Entry
  PutRow : Address → Row → Entry
  DropRow : Address → ℕ → Entry
  OfSources : SourceEntry → Entry

-- ---- tables and rows

-- the table with this head and these rows
abbrev pub table_of : TableHead → List Row → ResourceTable
table_of head rows = record {
  address = head.address;
  targets = head.targets;
  table = record { schema = head.schema; rows = rows; next_id = head.next_id; room = 0 };
}

abbrev pub rows_of : Option ResourceTable → List Row
rows_of None = []
rows_of (Some t) = t.table.rows

-- the rows of the table at the address; none if there is no such table
abbrev pub rows_at : Address → List ResourceTable → List Row
rows_at address tables = rows_of (found (at_address address) tables)

-- The tables with this head. The table at its address keeps its rows. If there is none, a table without rows is added.
abbrev pub with_head : TableHead → List ResourceTable → List ResourceTable
with_head head tables = upserted table_cmp (table_of head (rows_at head.address tables)) tables

-- the table with this row, which replaces the one of its `_id`, if there is one
abbrev pub with_row : Row → ResourceTable → ResourceTable
with_row row t = record t { table = record t.table { rows = upserted row_cmp row t.table.rows } }

-- the order of a row's `_id` against this one
abbrev pub row_at_id : ℕ → Row → Ordering
row_at_id id row = nat_cmp row.id id

-- the table without the row of that `_id`
abbrev pub without_row : ℕ → ResourceTable → ResourceTable
without_row id t = record t { table = record t.table { rows = dropped (row_at_id id) t.table.rows } }

-- ---- the state after entries

-- the people without the organization of that name; the roles in it stay
abbrev pub without_org_alone : List ℕ → PeopleLists → PeopleLists
without_org_alone name people = record people { orgs = dropped (org_at name) people.orgs }

-- the datasets, with only the one with this id edited
abbrev pub with_edit : List ℕ → DatasetEdit → List Package → List Package
with_edit id edit datasets = map (λ d. if bytes_eq d.id id then edited edit d else d) datasets

-- The state after the entry. A row is put into the table at its address and dropped from it, if there is such a table.
abbrev pub changed_by : Entry → State → State
changed_by (PutOrg org) state = record state { people = with_org org state.people }
changed_by (DropOrg name) state = record state { people = without_org_alone name state.people }
changed_by (PutRole role) state = record state { people = with_role role state.people }
changed_by (DropRole org user) state = record state { people = without_role org user state.people }
changed_by (PutDataset dataset) state = record state { datasets = upserted dataset_cmp dataset state.datasets }
changed_by (EditDataset id edit) state = record state { datasets = with_edit id edit state.datasets }
changed_by (DropDataset id) state = record state { datasets = dropped (dataset_at_id id) state.datasets }
changed_by (PutTable head) state = record state { tables = with_head head state.tables }
changed_by (DropTable address) state = record state { tables = dropped (at_address address) state.tables }
changed_by (PutRow address row) state = record state { tables = with_table_at address (with_row row) state.tables }
changed_by (DropRow address id) state = record state { tables = with_table_at address (without_row id) state.tables }
changed_by (OfSources entry) state = record state { sources = sources_changed_by entry state.sources }

-- the state after these entries, one after the other
abbrev pub state_after : List Entry → State → State
state_after [] state = state
state_after (entry ∷ entries) state = state_after entries (changed_by entry state)
