-- The step of a harvest on the portal's state.
use Rattle.std.specs.Prelude.{List, [], ◌∷◌, ◌++◌, Option, Some, None, map}
use Rattle.harvest_results.specs.Effects.{HarvestChange, HarvestState, change_of_step}
use Rattle.harvest_sources.specs.declared.step.Step.{Step}
use Rattle.packages.specs.declared.package.Package.{Package}
use Rattle.portal_state.specs.Entries.{Entry, OfSources, PutDataset, state_after}
use Rattle.portal_state.specs.EntriesOf.{drop_of_dataset}
use Rattle.portal_state.specs.State.{State}

-- what a harvest works on: the sources with their jobs, and the datasets
abbrev pub harvest_of : State → HarvestState
harvest_of state = record { sources = state.sources; datasets = state.datasets }

abbrev pub put_of_dataset : Option Package → List Entry
put_of_dataset None = []
put_of_dataset (Some d) = PutDataset d ∷ []

-- the entries of a step's change: of the dataset that is put, of those that are dropped, and of sources and jobs
abbrev pub entries_of_harvest : HarvestChange → List Entry
entries_of_harvest change =
    put_of_dataset change.put ++ map drop_of_dataset change.gone ++ map OfSources change.entries

-- the change of the step in the state
abbrev pub harvest_change : Step → State → HarvestChange
harvest_change step state = change_of_step step (harvest_of state)

-- the entries of the step in the state; a step that isn't accepted has none
abbrev pub harvest_entries : Step → State → List Entry
harvest_entries step state = entries_of_harvest (harvest_change step state)

-- the state after the step
abbrev pub state_after_step : Step → State → State
state_after_step step state = state_after (harvest_entries step state) state
