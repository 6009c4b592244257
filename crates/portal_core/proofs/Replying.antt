-- The reply to a call is none to a step of a harvest.
use Rattle.std.proofs.Common.{◌≡◌, true, Option, Some, None, refl}
use Rattle.std.specs.Prelude.{find}
use Rattle.portal_base.specs.declared.json_value.Json.{Json}
use Rattle.portal_calls.specs.declared.answer.Answer.{Answer}
use Rattle.portal_calls.specs.declared.answer.Answer.TheVariants.{Accepted, Refused, Shown}
use Rattle.portal_calls.specs.declared.call.Call.{Call}
use Rattle.portal_events.specs.Reply.{is_of_call}
use Rattle.portal_state.specs.Change.{Change}
use Rattle.portal_state.specs.Changed.{is_in_use}
use Rattle.portal_state.specs.Known.{known_call}
use Rattle.portal_state.specs.State.{State}
use Rattle.portal_state.specs.Step.{answer_in, call_step, outcome_of, outcome_unless_in_use}
use Rattle.portal_state.specs.declared.change.Claim.{Claim}

of-claims : (claim : Option Claim) (call : Call) (json : Json) (change : Change) (state : State)
    → is_of_call (outcome_unless_in_use claim call json change state).reply ≡ true
of-claims (Some claim) call json change state = refl
of-claims None call json change state = refl

of-answer : (answer : Answer Change) (call : Call) (state : State) → is_of_call (outcome_of answer call state).reply ≡ true
of-answer (Shown json) call state = refl
of-answer (Refused why) call state = refl
of-answer (Accepted json change) call state = of-claims (find (is_in_use state) change.claims) call json change state

pub reply-of_call : (state : State) (call : Call) → is_of_call (call_step state call).reply ≡ true
reply-of_call state call =
    let known = known_call state.people call in of-answer (answer_in state known) known state
