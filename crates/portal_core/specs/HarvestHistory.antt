-- The history of the portal from the beginning of a job, as a harvest sees it.
use Rattle.std.specs.Prelude.{◌≡◌, ℕ, Bool, false, IsTrue, List, [], ◌∷◌, Some}
use Rattle.std.specs.List.{All}
use Rattle.harvest_results.specs.Effects.{HarvestState}
use Rattle.harvest_results.specs.Histories.{AStep, HarvestEvent, NeverBegins, Other, begins, datasets_of, reading_by, source_of_job}
use Rattle.harvest_results.specs.Readings.{CatalogueReading}
use Rattle.harvest_sources.specs.Steps.{has_running, is_accepted}
use Rattle.harvest_sources.specs.declared.source.HarvestSource.{HarvestSource}
use Rattle.harvest_sources.specs.declared.step.Step.{Step}
use Rattle.harvest_sources.specs.declared.step.Step.TheVariants.{Begin}
use Rattle.packages.specs.declared.package.Package.{Package}
use Rattle.portal_events.specs.declared.event.Event.{Event}
use Rattle.portal_events.specs.declared.event.Event.TheVariants.{Call as a_call, Harvest as a_step}
use Rattle.portal_hall.specs.History.{replay}
use Rattle.portal_state.specs.Harvest.{harvest_change, harvest_of, state_after_step}
use Rattle.portal_state.specs.State.{State}
use Rattle.portal_state.specs.Step.{step_of}

-- the event as a harvest sees it: a call is no step of a harvest
abbrev pub harvest_event : Event → HarvestEvent
harvest_event (a_call call) = Other
harvest_event (a_step step) = AStep step

-- the events, each with what harvests work on after it
abbrev pub harvest_history : State → List Event → List (HarvestEvent × HarvestState)
harvest_history state [] = []
harvest_history state (e ∷ events) =
    let after = (step_of state e).core in (harvest_event e, harvest_of after) ∷ harvest_history after events

-- no job of a source is running
abbrev pub NoneRuns : State → Type 0
NoneRuns state = All (λ s. has_running s ≡ false) state.sources

-- the step is accepted in the state
abbrev pub accepts_step : Step → State → Bool
accepts_step step state = is_accepted (harvest_change step state).reply

-- the state after the first new job has begun
abbrev pub begun_in : State → State
begun_in state = state_after_step Begin state

-- the state after that and these events
abbrev pub after_begin : State → List Event → State
after_begin state events = replay step_of (begun_in state) events

-- The job of that id, which is one of the source, begins in the state, and never again among these events.
pub record IsLastBegin (source : HarvestSource) (id : List ℕ) (state : State) (events : List Event) : Type 0 where
  pub begun : IsTrue (begins id (harvest_of state) Begin)
  pub of_source : source_of_job state.sources id ≡ Some source
  pub once : NeverBegins id (harvest_of (begun_in state)) (harvest_history (begun_in state) events)

-- the datasets of the source
abbrev pub harvested_in : HarvestSource → State → List Package
harvested_in source state = datasets_of source (harvest_of state)

-- the reading that the accepted steps of the job make up, which begins in the state
abbrev pub reading_since : HarvestSource → List ℕ → State → List Event → CatalogueReading
reading_since source id state events =
    reading_by source id (harvest_of state) (harvest_history (begun_in state) events)
