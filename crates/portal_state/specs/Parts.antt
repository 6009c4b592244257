-- The portal's parts, and changes that are prepared on them.
use Rattle.std.specs.Prelude.{◌≡◌, ◌⊎◌, ℕ, ⊤, IsTrue, List, Option, Some, None, is_none, map}
use Rattle.std.specs.Option.{option_map}
use Rattle.org_roles.specs.Changed.{IsReady, org_fault}
use Rattle.packages.specs.Shelf.{ShelfState, package_at, number_in, datasets_of}
use Rattle.packages.specs.Tags.{text_set}
use Rattle.packages.specs.declared.package.Package.{Package}
use Rattle.dataset_answers.specs.Sound.{IsSound}
use Rattle.harvest_sources.specs.Sources.{SourceState}
use Rattle.harvest_sources.specs.declared.change.SourceChange.{SourceChange}
use Rattle.dataset_answers.specs.declared.change.DatasetChange.{DatasetChange}
use Rattle.dataset_answers.specs.declared.change.DatasetChange.TheVariants as dataset
use Rattle.harvest_sources.specs.Entries.{source_fault}
use Rattle.harvest_stages.specs.Ready as stages
use Rattle.harvest_stages.specs.Stages.{sources_in}
use Rattle.portal_state.specs.Changed.{changed, with_charge}
use Rattle.portal_state.specs.EntriesOf.{datasets_gone}
use Rattle.portal_state.specs.Indexes.{IsIndexed, IsReadyIn}
use Rattle.portal_state.specs.Planned.{PlannedChange}
use Rattle.portal_state.specs.State.{State}
use Rattle.portal_state.specs.Valid.{IsValid}
use Rattle.datastore_answers.specs.Linked.{AreLinked}
use Rattle.datastore_answers.specs.Plan as table
use Rattle.datastore_answers.specs.Tables.{Stored, tables_of}
use Rattle.portal_state.specs.Planned as planned
use Rattle.portal_state.specs.declared.change.Plan.{Plan}
use Rattle.portal_state.specs.declared.indexes.PreparedDataset.{PreparedDataset}
use Rattle.portal_state.specs.declared.change.Plan.TheVariants as plan
use Rattle.portal_state.specs.declared.parts.Parts.{Parts}
use Rattle.portal_state.specs.declared.parts.Prepared.{Prepared}
use Rattle.portal_state.specs.declared.parts.PreparedChange.{PreparedChange}
use Rattle.portal_state.specs.declared.parts.PreparedChange.TheVariants.{People, Put, Replace, Remove, Tables, Sources}
use Rattle.portal_state.specs.declared.quota.QuotaUsed.{QuotaUsed}

-- the state that the parts make up
abbrev pub state_of : Parts → State
state_of parts = record {
  people = parts.people.people;
  datasets = datasets_of parts.shelf;
  tables = tables_of parts.tables;
  sources = sources_in parts.sources;
  quota_used = parts.quota_used.used;
}

-- The parts make up a valid state, and the indexes are those of the shelf.
pub record IsConsistent (parts : Parts) : Type 0 where
  pub valid : IsValid (state_of parts)
  pub shelved : IsIndexed parts.shelf parts.indexes

-- a new dataset is sound
abbrev pub MakesSound : PlannedChange → Parts → Type 0
MakesSound (planned.People change) parts = ⊤
MakesSound (planned.Datasets (dataset.Create d)) parts = IsSound parts.people.people d
MakesSound (planned.Datasets (dataset.Replace d)) parts = ⊤
MakesSound (planned.Datasets (dataset.Remove id)) parts = ⊤
MakesSound (planned.Tables change) parts = ⊤
MakesSound (planned.Sources change) parts = ⊤

-- ---- what can be prepared

-- no dataset has the new one's id or name, as id or as name
pub record IsFree (shelf : ShelfState) (dataset : Package) : Type 0 where
  pub id : number_in dataset.id shelf ≡ None
  pub name : number_in dataset.name shelf ≡ None

-- the shelf has the dataset of that id at the number that it has for the id
pub record IsOnShelf (shelf : ShelfState) (id : List ℕ) : Type 0 where
  pub number : ℕ
  pub leads : number_in id shelf ≡ Some number
  pub is_present : option_map (λ d. d.id) (package_at number shelf) ≡ Some id

-- and the dataset has that name
pub record IsOnShelfAs (shelf : ShelfState) (dataset : Package) : Type 0 where
  pub on_shelf : IsOnShelf shelf dataset.id
  pub name : option_map (λ d. d.name) (package_at on_shelf.number shelf) ≡ Some dataset.name

-- the shelf has the dataset of that id so, or no dataset has it, as id or as name
abbrev pub IsPlaced : List ℕ → ShelfState → Type 0
IsPlaced id shelf = IsOnShelf shelf id ⊎ (number_in id shelf ≡ None)

-- the shelf can take the change
abbrev pub IsTakenBy : DatasetChange → ShelfState → Type 0
IsTakenBy (dataset.Create d) shelf = IsFree shelf d
IsTakenBy (dataset.Replace d) shelf = IsOnShelfAs shelf d
IsTakenBy (dataset.Remove id) shelf = IsOnShelf shelf id

-- The sources can take the change: it has no fault among them, and a new source has a name.
pub record IsTakenBySources (change : SourceChange) (sources : List SourceState) : Type 0 where
  pub named : stages.IsNamed change
  pub allowed : IsTrue (is_none (source_fault change sources))

-- no part refuses the change
abbrev pub IsUnrefused : PlannedChange → Parts → Type 0
IsUnrefused (planned.People change) parts = IsTrue (is_none (org_fault change parts.people.people))
IsUnrefused (planned.Datasets change) parts = IsTakenBy change parts.shelf
IsUnrefused (planned.Tables change) parts = ⊤
IsUnrefused (planned.Sources change) parts = IsTakenBySources change (sources_in parts.sources)

-- the batch that the plan prepared on a table is ready
abbrev pub IsPlannedOn : Plan → Stored → Type 0
IsPlannedOn (plan.People change) stored = ⊤
IsPlannedOn (plan.Datasets change) stored = ⊤
IsPlannedOn (plan.Tables change) stored = table.IsPlanned change stored
IsPlannedOn (plan.Sources change) stored = ⊤

abbrev pub IsPlanned : Plan → Parts → Type 0
IsPlanned p parts = IsPlannedOn p parts.tables

-- ---- what is prepared

-- the change that is prepared
abbrev pub planned_in : PreparedChange → PlannedChange
planned_in (People change) = planned.People change
planned_in (Put prepared) = planned.Datasets (dataset.Create prepared.dataset)
planned_in (Replace prepared) = planned.Datasets (dataset.Replace prepared.dataset)
planned_in (Remove number id) = planned.Datasets (dataset.Remove id)
planned_in (Tables change) = planned.Tables (table.change_of change)
planned_in (Sources prepared gone) = planned.Sources prepared.change

-- the state after the prepared change, with its charge
abbrev pub with_prepared : Prepared → State → State
with_prepared prepared state = with_charge prepared.charge (changed (planned_in prepared.change) state)

-- There is room for the new dataset at its number, and its id and name are free.
pub record IsPutReady (prepared : PreparedDataset) (parts : Parts) : Type 0 where
  pub room : parts.shelf.room ≡ Some prepared.number
  pub free : IsFree parts.shelf prepared.dataset
  pub indexes : IsReadyIn prepared parts.indexes

-- The dataset at the number has this one's id and name.
pub record IsReplaceReady (shelf : ShelfState) (number : ℕ) (dataset : Package) : Type 0 where
  pub id : option_map (λ d. d.id) (package_at number shelf) ≡ Some dataset.id
  pub name : option_map (λ d. d.name) (package_at number shelf) ≡ Some dataset.name

-- the ids of the datasets that go with a change of sources
abbrev pub ids_gone : SourceChange → List Package → List (List ℕ)
ids_gone change datasets = map (λ d. d.id) (datasets_gone change datasets)

-- The names of the datasets that go with a change of sources, in order, are their ids.
abbrev pub AreGoneByName : SourceChange → List Package → Type 0
AreGoneByName change datasets =
    text_set (map (λ d. d.name) (datasets_gone change datasets)) ≡ ids_gone change datasets

-- That holds of a change of sources.
abbrev pub GoesByName : PlannedChange → List Package → Type 0
GoesByName (planned.People change) datasets = ⊤
GoesByName (planned.Datasets change) datasets = ⊤
GoesByName (planned.Tables change) datasets = ⊤
GoesByName (planned.Sources change) datasets = AreGoneByName change datasets

-- there is room for the change
abbrev pub IsChangeReady : PreparedChange → Parts → Type 0
IsChangeReady (People change) parts = IsReady change parts.people
IsChangeReady (Put prepared) parts = IsPutReady prepared parts
IsChangeReady (Replace prepared) parts =
    IsReplaceReady parts.shelf prepared.number prepared.dataset × IsReadyIn prepared parts.indexes
IsChangeReady (Remove number id) parts = option_map (λ d. d.id) (package_at number parts.shelf) ≡ Some id
IsChangeReady (Tables change) parts = table.IsReadyPlan change parts.tables
IsChangeReady (Sources prepared gone) parts =
    stages.IsReady prepared parts.sources × (gone ≡ ids_gone prepared.change (datasets_of parts.shelf))

-- there is room for what is charged
abbrev pub IsChargeReady : Option QuotaUsed → Parts → Type 0
IsChargeReady None parts = ⊤
IsChargeReady (Some entry) parts = IsTrue parts.quota_used.room

-- A prepared change can be made and charged, and the references between tables hold afterwards.
pub record IsPrepared (prepared : Prepared) (parts : Parts) : Type 0 where
  pub change : IsChangeReady prepared.change parts
  pub linked : AreLinked (changed (planned_in prepared.change) (state_of parts)).tables
  pub charge : IsChargeReady prepared.charge parts
