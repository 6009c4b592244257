-- A step of a harvest on the portal's parts: what is found of its datasets, and what is prepared.
use Rattle.std.specs.Prelude.{◌≡◌, ◌⊎◌, ⊤, ℕ, List, [], ◌∷◌, map, Option, Some, None}
use Rattle.harvest_results.specs.Effects.{HarvestState, dropped_by, effect_of, put_by, with_put}
use Rattle.harvest_sources.specs.Entries.{SourceEntry, sources_after}
use Rattle.harvest_sources.specs.Steps.{stepped}
use Rattle.harvest_sources.specs.declared.step.Effect.{Effect}
use Rattle.harvest_sources.specs.declared.step.Effect.TheVariants.{Plain, Added, Updated, Unchanged, Deleted}
use Rattle.harvest_sources.specs.declared.step.Step.{Step}
use Rattle.harvest_stages.specs.Prepared.{StepToMake, stepped_in}
use Rattle.packages.specs.Shelf.{ShelfState}
use Rattle.packages.specs.declared.package.Package.{Package}
use Rattle.portal_base.specs.Ordered.{dropped}
use Rattle.dataset_answers.specs.Changed.{dataset_at_id}
use Rattle.portal_state.specs.Harvest.{harvest_of}
use Rattle.portal_state.specs.Indexes.{IsReadyIn}
use Rattle.portal_state.specs.Parts.{IsFree, IsOnShelfAs, IsPutReady, IsReplaceReady}
use Rattle.portal_state.specs.State.{State}
use Rattle.portal_state.specs.declared.harvest.PreparedPut.{PreparedPut}
use Rattle.portal_state.specs.declared.harvest.PreparedPut.TheVariants.{Nothing, New, Replaced}
use Rattle.portal_state.specs.declared.harvest.StepDatasets.{StepDatasets}
use Rattle.portal_state.specs.declared.parts.Parts.{Parts}

-- ---- datasets that go

-- the datasets without those with these ids, one after the other
abbrev pub without_ids : List (List ℕ) → List Package → List Package
without_ids [] datasets = datasets
without_ids (id ∷ ids) datasets = without_ids ids (dropped (dataset_at_id id) datasets)

-- ---- what a step does to the datasets

-- This is what the step does to the datasets, if it is accepted.
pub record AreFound (step : Step) (state : HarvestState) (found : StepDatasets) : Type 0 where
  pub put : found.put ≡ put_by step state
  pub gone : found.gone ≡ map (λ d. d.id) (dropped_by step state)
  pub effect : found.effect ≡ effect_of step state

-- what is left to be put: a dataset that changes nothing isn't put
abbrev pub unless_unchanged : Effect → Option Package → Option Package
unless_unchanged Plain put = put
unless_unchanged Added put = put
unless_unchanged Updated put = put
unless_unchanged Unchanged put = None
unless_unchanged (Deleted count) put = put

-- The sources have this step prepared, with its effect on the datasets.
abbrev pub IsStep : Step → State → StepToMake → Type 0
IsStep step state prepared =
    stepped_in prepared state.sources ≡ stepped step (effect_of step (harvest_of state)) state.sources

-- The shelf can take the dataset: in place of the one that has its id and its name, or as a new one.
abbrev pub IsPuttable : ShelfState → Package → Type 0
IsPuttable shelf dataset = IsOnShelfAs shelf dataset ⊎ IsFree shelf dataset

-- the shelf can take the dataset, if there is one
abbrev pub IsPuttableIf : ShelfState → Option Package → Type 0
IsPuttableIf shelf None = ⊤
IsPuttableIf shelf (Some dataset) = IsPuttable shelf dataset

-- the dataset that is prepared
abbrev pub put_in : PreparedPut → Option Package
put_in Nothing = None
put_in (New prepared) = Some prepared.dataset
put_in (Replaced prepared) = Some prepared.dataset

-- there is room for it
abbrev pub IsReadyPut : PreparedPut → Parts → Type 0
IsReadyPut Nothing parts = ⊤
IsReadyPut (New prepared) parts = IsPutReady prepared parts
IsReadyPut (Replaced prepared) parts =
    IsReplaceReady parts.shelf prepared.number prepared.dataset × IsReadyIn prepared parts.indexes

-- the state after the dataset is put, those with these ids go, and the sources change
abbrev pub after_commit : Option Package → List (List ℕ) → List SourceEntry → State → State
after_commit put gone entries state = record state {
  datasets = without_ids gone (with_put put state.datasets);
  sources = sources_after entries state.sources;
}
