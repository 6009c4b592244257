-- Steps of a harvest that are made on a machine one after the other, and the answers to them.
use Rattle.std.specs.Prelude.{◌≡◌, if◌then◌else◌, List, [], ◌∷◌}
use Rattle.harvest_results.specs.Effects.{HarvestState, after_step, change_of_step}
use Rattle.harvest_sources.specs.declared.step.Step.{Step as HarvestStep}
use Rattle.harvest_sources.specs.declared.step.StepReply.{StepReply}
use Rattle.portal_events.specs.declared.event.Event.{Event}
use Rattle.portal_events.specs.declared.event.Event.TheVariants.{Harvest as a_step}
use Rattle.portal_events.specs.declared.event.Refusal.TheVariants.{KeeperFault, OutOfMemory}
use Rattle.portal_events.specs.declared.event.Reply.{Reply}
use Rattle.portal_events.specs.declared.event.Reply.TheVariants.{Refused, Harvest}
use Rattle.portal_hall.specs.History.{Step}

-- a step that was made, and its answer
pub record Made : Type 0 where
  pub step : HarvestStep
  pub answer : StepReply

module _ {C : Type 0} (step : C → Event → Step C Reply) where
  -- the core after a step, which changes nothing if it isn't accepted
  abbrev pub core_after : C → HarvestStep → C
  core_after core s = if (step core (a_step s)).is_accepted then (step core (a_step s)).core else core

  -- The step was made in this core, got this answer, and left this core.
  abbrev pub IsMade : C → HarvestStep → StepReply → C → Type 0
  IsMade core s answer after = ((step core (a_step s)).reply ≡ Harvest answer) × (after ≡ core_after core s)

  -- The steps were made one after the other from this core on. Each got its answer in the core that it found, and the last
  -- one left this core.
  abbrev pub AreMade : C → List Made → C → Type 0
  AreMade core [] after = after ≡ core
  AreMade core (made ∷ rest) after =
      ((step core (a_step made.step)).reply ≡ Harvest made.answer) × AreMade (core_after core made.step) rest after

  -- A step of a harvest gets an answer to a step. A reply that tells of no memory or of a fault is one of the two refusals
  -- for that.
  pub record AnswersSteps (IsOutOfMemory IsFault : Reply → Type 0) : Type 0 where
    pub answers : (core : C) (s : HarvestStep) → (answer : StepReply) × ((step core (a_step s)).reply ≡ Harvest answer)
    pub memory : (reply : Reply) → IsOutOfMemory reply → reply ≡ Refused OutOfMemory
    pub fault : (reply : Reply) → IsFault reply → reply ≡ Refused KeeperFault

  -- By this view, a step on the machine is a step of a harvest on sources and datasets.
  pub record StepsAsHarvests (view : C → HarvestState) : Type 0 where
    pub answer : (core : C) (s : HarvestStep)
        → (step core (a_step s)).reply ≡ Harvest (change_of_step s (view core)).reply
    pub after : (core : C) (s : HarvestStep) → view (core_after core s) ≡ after_step s (view core)

-- ---- steps on sources and datasets

-- the sources and datasets after these steps
abbrev pub state_after : List Made → HarvestState → HarvestState
state_after [] state = state
state_after (made ∷ rest) state = state_after rest (after_step made.step state)

-- Each of the steps gets its answer from the sources and datasets that it finds.
abbrev pub AreAnswered : List Made → HarvestState → Type 0
AreAnswered [] state = Unit {0}
AreAnswered (made ∷ rest) state =
    (made.answer ≡ (change_of_step made.step state).reply) × AreAnswered rest (after_step made.step state)
