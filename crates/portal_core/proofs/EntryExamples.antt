-- Worked examples: what goes with an organization and with a dataset, heads of tables, and batches. ann and bob have
-- roles in `city`, and dan has one in `lake`. Resource 1 of the dataset `1` has a table with two rows.
-- The source `aa` of `city` has one job. The dataset `2` was harvested from it.
use Rattle.std.proofs.Common.{◌≡◌, ℕ, List, [], ◌∷◌, None, Ok, refl}
use Rattle.std.specs.Prelude.{codes, pos}
use Rattle.table_schema.specs.Field.{SchemaValue}
use Rattle.table_schema.specs.declared.cell.Cell.TheVariants as cell
use Rattle.datastore_table.specs.Put.{Worked}
use Rattle.datastore_table.specs.declared.row.Row.{Row}
use Rattle.org_roles.specs.declared.change.OrgChange.TheVariants as org
use Rattle.org_roles.specs.declared.entry.Membership.{Membership}
use Rattle.org_roles.specs.declared.entry.Org.{Org}
use Rattle.org_roles.specs.declared.role.Role.{Role}
use Rattle.org_roles.specs.declared.role.Role.TheVariants.{Member, Editor, Admin}
use Rattle.packages.specs.Package.{fresh_package}
use Rattle.packages.specs.declared.package.Package.{Package}
use Rattle.packages.specs.declared.package.Resource.{Resource}
use Rattle.dataset_answers.specs.Edits.{edit_of}
use Rattle.dataset_answers.specs.declared.change.DatasetChange.TheVariants as dataset
use Rattle.datastore_answers.specs.declared.address.Address.{Address}
use Rattle.datastore_answers.specs.declared.resource_table.ResourceTable.{ResourceTable}
use Rattle.harvest_sources.specs.Entries.{DropJob, DropSource}
use Rattle.harvest_sources.specs.Jobs.{new_job}
use Rattle.harvest_sources.specs.Sources.{SourceState}
use Rattle.harvest_sources.specs.declared.change.SourceChange.TheVariants as source
use Rattle.harvest_sources.specs.declared.job.Job.{Job}
use Rattle.portal_state.specs.Planned.{People, Datasets, Sources, entries_of}
use Rattle.portal_state.specs.Changed.{changed}
use Rattle.portal_state.specs.State.{State}
use Rattle.portal_state.specs.Entries.{DropDataset, DropOrg, DropRole, DropRow, DropTable, EditDataset, OfSources}
use Rattle.portal_state.specs.Entries.{PutRow, PutTable, rows_at, state_after}
use Rattle.portal_state.specs.EntriesOf.{entries_of_batch, head_with}

-- ---- a state

abbrev named : List ℕ → Org
named name = record { name = name; title = name; description = []; created = pos 0 }

abbrev member : List ℕ → List ℕ → Role → Membership
member in_org user role = record { org = in_org; user = user; role = role }

abbrev bare : Package
bare = fresh_package (codes "1") (codes "trees") (codes "Trees") (codes "city") (codes "ann") (pos 0)

abbrev first_resource : Resource
first_resource = record { number = 1; name = []; url = []; format = []; description = []; mimetype = [] }

abbrev trees : Package
trees = record bare { resources = first_resource ∷ [] }

abbrev here : Address
here = record { dataset = codes "1"; number = 1 }

abbrev row : ℕ → List ℕ → Row
row id text = record { id = id; cells = cell.Text text ∷ [] }

abbrev schema : SchemaValue
schema = record { fields = []; key = []; foreign = []; missing = [] }

abbrev heights_with : List Row → ℕ → ResourceTable
heights_with rows next_id = record {
  address = here;
  targets = [];
  table = record { schema = schema; rows = rows; next_id = next_id; room = 0 };
}

abbrev heights : ResourceTable
heights = heights_with (row 1 (codes "oak") ∷ row 2 (codes "elm") ∷ []) 3

abbrev first_job : Job
first_job = new_job (codes "aa") 1 (pos 0)

abbrev harvested : SourceState
harvested = record {
  source = record {
    name = codes "aa";
    title = codes "aa";
    url = codes "http://a/";
    owner_org = codes "city";
    next_job = 2;
  };
  jobs = first_job ∷ [];
  listing = None;
}

abbrev portal : State
portal = record {
  people = record {
    users = [];
    orgs = named (codes "city") ∷ named (codes "lake") ∷ [];
    roles = member (codes "city") (codes "ann") Admin ∷ member (codes "city") (codes "bob") Member
        ∷ member (codes "lake") (codes "dan") Editor ∷ [];
  };
  datasets = trees ∷ [];
  tables = heights ∷ [];
  sources = harvested ∷ [];
  quota_used = [];
}

-- ---- what goes with something else

-- With an organization go the roles in it, each by an entry of its own.
roles_go : entries_of (People (org.Remove (codes "city"))) portal
    ≡ DropRole (codes "city") (codes "ann") ∷ DropRole (codes "city") (codes "bob") ∷ DropOrg (codes "city") ∷ []
roles_go = refl

roles_went : state_after (entries_of (People (org.Remove (codes "city"))) portal) portal
    ≡ changed (People (org.Remove (codes "city"))) portal
roles_went = refl

-- The drop of an organization alone leaves the roles.
roles_stay : (state_after (DropOrg (codes "city") ∷ []) portal).people.roles ≡ portal.people.roles
roles_stay = refl

-- With a dataset go its tables and their rows.
table_goes : entries_of (Datasets (dataset.Remove (codes "1"))) portal
    ≡ DropRow here 1 ∷ DropRow here 2 ∷ DropTable here ∷ DropDataset (codes "1") ∷ []
table_goes = refl

table_went : state_after (entries_of (Datasets (dataset.Remove (codes "1"))) portal) portal
    ≡ changed (Datasets (dataset.Remove (codes "1"))) portal
table_went = refl

-- The table of a resource that stays isn't touched.
table_stays : entries_of (Datasets (dataset.Replace trees)) portal ≡ EditDataset (codes "1") (edit_of trees) ∷ []
table_stays = refl

-- An edit leaves what no update changes, also if that isn't what the new dataset has.
creator_stays : (state_after (EditDataset (codes "1") (edit_of (record trees { title = []; creator = codes "bob" })) ∷ [])
    portal).datasets
    ≡ record trees { title = [] } ∷ []
creator_stays = refl

-- ---- tables

-- A head leaves the rows as they are.
rows_stay : (state_after (PutTable (head_with heights 9) ∷ []) portal).tables ≡ heights_with heights.table.rows 9 ∷ []
rows_stay = refl

-- the heights after a batch that wrote rows 3 and 2
abbrev worked : Worked
worked = record {
  rows = row 1 (codes "oak") ∷ row 2 (codes "fir") ∷ row 3 (codes "ash") ∷ [];
  next_id = 4;
  written = 3 ∷ 2 ∷ [];
}

-- A batch puts the next `_id` and the rows that it wrote, and no other row.
batch_puts : entries_of_batch heights (Ok worked)
    ≡ PutTable (head_with heights 4) ∷ PutRow here (row 2 (codes "fir")) ∷ PutRow here (row 3 (codes "ash")) ∷ []
batch_puts = refl

batch_put : (state_after (entries_of_batch heights (Ok worked)) portal).tables ≡ heights_with worked.rows 4 ∷ []
batch_put = refl

-- A row for a table that doesn't exist is not kept.
no_table : rows_at here (state_after (PutRow here (row 1 (codes "oak")) ∷ []) (record portal { tables = [] })).tables
    ≡ []
no_table = refl

-- ---- sources

-- With a source go its jobs, each by an entry of its own.
job_goes : entries_of (Sources (source.Remove (codes "aa"))) portal
    ≡ OfSources (DropJob (codes "aa") 1) ∷ OfSources (DropSource (codes "aa")) ∷ []
job_goes = refl

source_went : (state_after (entries_of (Sources (source.Remove (codes "aa"))) portal) portal).sources ≡ []
source_went = refl

-- a dataset that was harvested from it
abbrev oaks : Package
oaks = record bare { id = codes "2"; name = codes "oaks"; source = codes "aa"; iri = codes "http://a/1" }

abbrev with_oaks : State
with_oaks = record portal { datasets = trees ∷ oaks ∷ [] }

-- With a source go its datasets too.
dataset_goes : entries_of (Sources (source.Remove (codes "aa"))) with_oaks
    ≡ DropDataset (codes "2") ∷ OfSources (DropJob (codes "aa") 1) ∷ OfSources (DropSource (codes "aa")) ∷ []
dataset_goes = refl

dataset_went : state_after (entries_of (Sources (source.Remove (codes "aa"))) with_oaks) with_oaks
    ≡ changed (Sources (source.Remove (codes "aa"))) with_oaks
dataset_went = refl

-- A further job has the number that its source gives it, and the source gives the next one the next number.
job_came : (state_after (entries_of (Sources (source.AddJob (codes "aa") (pos 60))) portal) portal).sources
    ≡ record harvested {
      source = record harvested.source { next_job = 3 };
      jobs = first_job ∷ new_job (codes "aa") 2 (pos 60) ∷ [];
    } ∷ []
job_came = refl
