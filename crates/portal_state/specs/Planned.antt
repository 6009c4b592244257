-- Changes as they are planned: of organizations and roles, of datasets, of tables, or of sources of harvests, in the words
-- of the crate that answers the call. The portal writes a planned change out as entries.
use Rattle.std.specs.Prelude.{List, [], ◌∷◌}
use Rattle.org_roles.specs.declared.change.OrgChange.{OrgChange}
use Rattle.org_roles.specs.declared.change.OrgChange.TheVariants as org
use Rattle.dataset_answers.specs.declared.change.DatasetChange.{DatasetChange}
use Rattle.dataset_answers.specs.declared.change.DatasetChange.TheVariants as dataset
use Rattle.datastore_answers.specs.Changed.{TableChange}
use Rattle.datastore_answers.specs.Plan as table
use Rattle.harvest_sources.specs.declared.change.SourceChange.{SourceChange}
use Rattle.harvest_sources.specs.declared.change.SourceChange.TheVariants as source
use Rattle.portal_state.specs.Change.{Change}
use Rattle.portal_state.specs.EntriesOf.{entries_of_people, entries_of_datasets, entries_of_tables}
use Rattle.portal_state.specs.EntriesOf.{entries_of_sources}
use Rattle.portal_state.specs.Entries.{Entry}
use Rattle.portal_state.specs.State.{State}
use Rattle.portal_state.specs.declared.change.Claim.{Claim}
use Rattle.portal_state.specs.declared.change.Claim.TheVariants.{OrgName, DatasetName, DatasetId, SourceName}
use Rattle.portal_state.specs.declared.change.Plan.{Plan}
use Rattle.portal_state.specs.declared.change.Plan.TheVariants as plan

pub data PlannedChange : Type 0 where
  People : OrgChange → PlannedChange
  Datasets : DatasetChange → PlannedChange
  Tables : TableChange → PlannedChange
  Sources : SourceChange → PlannedChange

-- the change of a plan
abbrev pub planned_of : Plan → PlannedChange
planned_of (plan.People change) = People change
planned_of (plan.Datasets change) = Datasets change
planned_of (plan.Tables change) = Tables (table.change_of change)
planned_of (plan.Sources change) = Sources change

-- ---- what it claims

abbrev pub claims_of_people : OrgChange → List Claim
claims_of_people (org.Create o) = OrgName o.name ∷ []
claims_of_people (org.Patch o) = []
claims_of_people (org.Remove name) = []
claims_of_people (org.SetRole name user role) = []
claims_of_people (org.DropRole name user) = []

abbrev pub claims_of_datasets : DatasetChange → List Claim
claims_of_datasets (dataset.Create d) = DatasetName d.name ∷ DatasetId d.id ∷ []
claims_of_datasets (dataset.Replace d) = []
claims_of_datasets (dataset.Remove id) = []

abbrev pub claims_of_sources : SourceChange → List Claim
claims_of_sources (source.Create new) = SourceName new.name ∷ []
claims_of_sources (source.Update name title url) = []
claims_of_sources (source.Remove name) = []
claims_of_sources (source.AddJob name created) = []

-- the names and ids that a planned change claims for new entries, in the order in which they are checked
abbrev pub claims_of : PlannedChange → List Claim
claims_of (People change) = claims_of_people change
claims_of (Datasets change) = claims_of_datasets change
claims_of (Tables change) = []
claims_of (Sources change) = claims_of_sources change

-- ---- the change that it is

-- the entries of the planned change, given its caller's view
abbrev pub entries_of : PlannedChange → State → List Entry
entries_of (People change) view = entries_of_people change view.people.roles
entries_of (Datasets change) view = entries_of_datasets change view.tables
entries_of (Tables change) view = entries_of_tables change view.tables
entries_of (Sources change) view = entries_of_sources change view.sources view.datasets

-- the planned change, written out on its caller's view
abbrev pub change_of : PlannedChange → State → Change
change_of planned view = record { claims = claims_of planned; entries = entries_of planned view }
