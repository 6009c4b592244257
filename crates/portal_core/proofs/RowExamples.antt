-- Worked examples: the rows of a state, and the changes of rows that follow from entries. ann has a role in `city`. Resource
-- 1 of the dataset `1` has a table with one row, and resources 2 and 10 have tables without rows. The source `parks` has the
-- jobs 2 and 10.
use Rattle.std.proofs.Common.{◌≡◌, ℕ, List, [], ◌∷◌, Some, None, map, refl}
use Rattle.std.specs.Prelude.{codes, pos}
use Rattle.std.specs.Fmt.{digits}
use Rattle.table_schema.specs.declared.cell.Cell.TheVariants as cell
use Rattle.datastore_table.specs.declared.row.Row.{Row}
use Rattle.datastore_answers.specs.declared.address.Address.{Address}
use Rattle.datastore_answers.specs.declared.resource_table.ResourceTable.{ResourceTable}
use Rattle.harvest_sources.specs.Entries.{DropJob}
use Rattle.harvest_sources.specs.Jobs.{new_job}
use Rattle.harvest_sources.specs.Sources.{SourceState}
use Rattle.harvest_sources.specs.declared.source.HarvestSource.{HarvestSource}
use Rattle.org_roles.specs.declared.entry.Membership.{Membership}
use Rattle.org_roles.specs.declared.entry.Org.{Org}
use Rattle.org_roles.specs.declared.role.Role.TheVariants.{Admin}
use Rattle.packages.specs.Package.{fresh_package}
use Rattle.packages.specs.declared.package.Package.{Package}
use Rattle.portal_state.specs.State.{State}
use Rattle.portal_keeper.specs.Changed.{rows_after}
use Rattle.portal_keeper.specs.Rows.{body_at, kind_number}
use Rattle.portal_keeper.specs.declared.change.Change.{Change}
use Rattle.portal_keeper.specs.declared.change.Change.TheVariants.{Put, Remove}
use Rattle.portal_keeper.specs.declared.row.KeptRow.{KeptRow}
use Rattle.portal_keeper.specs.declared.row.RowKind.TheVariants as kind
use Rattle.portal_rows.specs.OrgRows.{org_row}
use Rattle.portal_rows.specs.TableRows.{cells_row, twenty_digits}
use Rattle.portal_rows.specs.VersionRow.{version_row}
use Rattle.portal_state.specs.Entries.{Entry, DropOrg, DropRole, DropRow, DropTable, OfSources, PutRow, rows_at, state_after}
use Rattle.portal_state.specs.KeptRows.{kept_rows, row_targets}
use Rattle.portal_state.specs.RowChanges.{effective_changes, row_changes}

-- ---- a state

abbrev city : Org
city = record { name = codes "city"; title = codes "City"; description = []; created = pos 0 }

abbrev ann : Membership
ann = record { org = codes "city"; user = codes "ann"; role = Admin }

abbrev trees : Package
trees = fresh_package (codes "1") (codes "trees") (codes "Trees") (codes "city") (codes "ann") (pos 0)

abbrev of_number : ℕ → Address
of_number number = record { dataset = codes "1"; number = number }

abbrev table_with : ℕ → List ℕ → List Row → ResourceTable
table_with number targets rows = record {
  address = of_number number;
  targets = targets;
  table = record {
    schema = record { fields = []; key = []; foreign = []; missing = [] };
    rows = rows;
    next_id = 2;
    room = 0;
  };
}

abbrev oak : Row
oak = record { id = 1; cells = cell.Text (codes "oak") ∷ [] }

abbrev heights : ResourceTable
heights = table_with 1 (1 ∷ 2 ∷ []) (oak ∷ [])

abbrev parks : HarvestSource
parks = record {
  name = codes "parks";
  title = codes "Parks";
  url = codes "http://city.example/parks";
  owner_org = codes "city";
  next_job = 11;
}

abbrev of_parks : SourceState
of_parks = record {
  source = parks;
  jobs = new_job (codes "parks") 2 (pos 0) ∷ new_job (codes "parks") 10 (pos 0) ∷ [];
  listing = None;
}

abbrev state : State
state = record {
  people = record { users = []; orgs = city ∷ []; roles = ann ∷ [] };
  datasets = trees ∷ [];
  tables = heights ∷ table_with 2 [] [] ∷ table_with 10 [] [] ∷ [];
  sources = of_parks ∷ [];
  quota_used = [];
}

abbrev bare : State
bare = record {
  people = record { users = []; orgs = []; roles = [] };
  datasets = [];
  tables = [];
  sources = [];
  quota_used = [];
}

-- the number of a row's kind, and its key
abbrev key_of : KeptRow → ℕ × List ℕ
key_of row = (kind_number row.kind, row.key)

-- ---- rows

-- A state with nothing in it has the row of the version.
version_alone : kept_rows bare ≡ version_row ∷ []
version_alone = refl

-- Rows are in order by kind, and then by the bytes of their keys.
keys_in_order : map key_of (kept_rows state)
    ≡ (1, codes "portal")
    ∷ (2, codes "city")
    ∷ (3, codes "1")
    ∷ (4, codes "1.1")
    ∷ (4, codes "1.10")
    ∷ (4, codes "1.2")
    ∷ (5, codes "1.1/00000000000000000001")
    ∷ (6, codes "parks")
    ∷ (7, codes "parks.10")
    ∷ (7, codes "parks.2")
    ∷ []
unfolding twenty_digits digits
keys_in_order = refl

-- A table that refers to itself has 0 as that target.
target_of_itself : row_targets heights ≡ 0 ∷ 2 ∷ []
target_of_itself = refl

-- ---- changes of rows

-- the changes of rows for entries that are made in the state
abbrev changes : List Entry → List Change
changes entries = row_changes entries (state_after entries state)

-- An organization's row has its roles, so that the entry of a role changes it.
role_dropped : changes (DropRole (codes "city") (codes "ann") ∷ []) ≡ Put (org_row city []) ∷ []
unfolding twenty_digits digits
role_dropped = refl

-- Each change is to what the rows have after all entries.
org_dropped : changes (DropRole (codes "city") (codes "ann") ∷ DropOrg (codes "city") ∷ [])
    ≡ Remove kind.Org (codes "city") ∷ Remove kind.Org (codes "city") ∷ []
unfolding twenty_digits digits
org_dropped = refl

-- A job has a row of its own, whose key is the job's id.
job_dropped : changes (OfSources (DropJob (codes "parks") 2) ∷ []) ≡ Remove kind.Job (codes "parks.2") ∷ []
unfolding twenty_digits digits
job_dropped = refl

-- The drop of what is not there changes nothing.
nothing_dropped : effective_changes (kept_rows state) (changes (DropOrg (codes "lake") ∷ DropRow (of_number 2) 1 ∷ []))
    ≡ []
unfolding twenty_digits digits
nothing_dropped = refl

-- No row is put into a table that is not there.
row_without_a_table : changes (PutRow (of_number 3) oak ∷ [])
    ≡ Remove kind.Row (codes "1.3/00000000000000000001") ∷ []
unfolding twenty_digits digits
row_without_a_table = refl

-- If a table that has a row is dropped, and the row is not, the row stays behind in the store: it is not dropped alone.
row_left_behind : body_at (rows_after (changes (DropTable (of_number 1) ∷ [])) (kept_rows state)) kind.Row
    (codes "1.1/00000000000000000001")
    ≡ Some (cells_row (codes "1.1") oak).body
unfolding twenty_digits digits
row_left_behind = refl

its_rows : rows_at (of_number 1) state.tables ≡ oak ∷ []
its_rows = refl
