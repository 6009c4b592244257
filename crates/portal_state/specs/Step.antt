-- A step of the state.
use Rattle.std.specs.Prelude.{true, false, Option, Some, None, find}
use Rattle.portal_base.specs.declared.json_value.Json.{Json}
use Rattle.portal_calls.specs.declared.answer.Answer.{Answer}
use Rattle.portal_calls.specs.declared.answer.Answer.TheVariants as answer
use Rattle.portal_events.specs.Reply.{refusal_of}
use Rattle.portal_calls.specs.declared.call.Call.{Call}
use Rattle.portal_events.specs.declared.event.Event.{Event}
use Rattle.portal_events.specs.declared.event.Event.TheVariants.{Call as a_call, Harvest as a_step}
use Rattle.portal_events.specs.declared.event.Refusal.TheVariants.{NameInUse}
use Rattle.portal_events.specs.declared.event.Reply.{Reply}
use Rattle.portal_events.specs.declared.event.Reply.TheVariants.{Accepted, Shown, Refused, Harvest}
use Rattle.portal_hall.specs.History.{Step}
use Rattle.harvest_sources.specs.Steps.{is_accepted}
use Rattle.harvest_sources.specs.declared.step.Step.{Step as HarvestStep}
use Rattle.portal_state.specs.Answer.{answer_to}
use Rattle.portal_state.specs.Change.{Change}
use Rattle.portal_state.specs.Changed.{applied, is_in_use, key_of}
use Rattle.portal_state.specs.Harvest.{state_after_step, harvest_change}
use Rattle.portal_state.specs.Known.{known_call}
use Rattle.portal_state.specs.Planned.{PlannedChange, change_of}
use Rattle.portal_state.specs.State.{State}
use Rattle.portal_state.specs.View.{view_of}
use Rattle.portal_state.specs.declared.change.Claim.{Claim}

-- what an event comes to: the state after it, the reply, and whether the event was accepted as a change
abbrev pub Outcome : Type 0
Outcome = Step State Reply

-- the outcome that leaves the state as it is
abbrev pub unchanged : Reply → State → Outcome
unchanged reply state = record { core = state; reply = reply; is_accepted = false }

-- the outcome of an accepted change: the change is made, unless something that it claims is in use
abbrev pub outcome_unless_in_use : Option Claim → Call → Json → Change → State → Outcome
outcome_unless_in_use (Some claim) call json change state = unchanged (Refused (NameInUse (key_of claim))) state
outcome_unless_in_use None call json change state = record {
  core = applied call change state;
  reply = Accepted json;
  is_accepted = true;
}

-- The outcome of an answer in the whole state. Names and ids in use are looked up here and nowhere else.
abbrev pub outcome_of : Answer Change → Call → State → Outcome
outcome_of (answer.Shown json) call state = unchanged (Shown json) state
outcome_of (answer.Refused why) call state = unchanged (Refused (refusal_of why)) state
outcome_of (answer.Accepted json change) call state =
    outcome_unless_in_use (find (is_in_use state) change.claims) call json change state

-- the outcome of an accepted planned change, which is written out as entries on the caller's view
abbrev pub planned_outcome : Json → PlannedChange → Call → State → Outcome
planned_outcome json planned call state =
    outcome_of (answer.Accepted json (change_of planned (view_of call.caller state))) call state

-- the answer to the call in the state, which is that on its caller's view
abbrev pub answer_in : State → Call → Answer Change
answer_in state call = answer_to call (view_of call.caller state)

-- the outcome of a call whose caller the portal knows
abbrev pub known_step : State → Call → Outcome
known_step state call = outcome_of (answer_in state call) call state

-- The outcome of a call. A caller whom no user has is nobody.
abbrev pub call_step : State → Call → Outcome
call_step state call = known_step state (known_call state.people call)

-- The outcome of a step of a harvest. It is nobody's call: nobody's view matters, and nobody is charged.
abbrev pub harvest_step : State → HarvestStep → Outcome
harvest_step state step =
    let answer = (harvest_change step state).reply in
    record {
      core = state_after_step step state;
      reply = Harvest answer;
      is_accepted = is_accepted answer;
    }

-- One step of the state.
abbrev pub step_of : State → Event → Outcome
step_of state (a_call call) = call_step state call
step_of state (a_step step) = harvest_step state step
