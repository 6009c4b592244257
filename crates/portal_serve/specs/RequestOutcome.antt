-- The outcome of a caller's request: the reply and the state after it.
use Rattle.std.specs.Prelude.{ℕ, ℤ, Result, Ok, Err}
use Rattle.action_api.specs.declared.early.Early.{Early}
use Rattle.portal_base.specs.declared.caller.Caller.{Caller}
use Rattle.portal_calls.specs.declared.call.Request.{Request}
use Rattle.portal_links.specs.Asked.{call_of}
use Rattle.portal_state.specs.State.{State}
use Rattle.portal_state.specs.Step.{Outcome, call_step}
use Rattle.portal_events.specs.declared.event.Reply.{Reply}

-- the reply, or the early fault, and the state after it
pub record RequestOutcome : Type 0 where
  pub reply : Result Reply Early
  pub state : State

abbrev pub outcome_of_step : Outcome → RequestOutcome
outcome_of_step outcome = record { reply = Ok outcome.reply; state = outcome.core }

-- The outcome of the step of the call, where there is a request, else the early fault, which leaves the state.
abbrev pub outcome_of_request : State → Caller → ℕ → ℤ → ℕ → Result Request Early → RequestOutcome
outcome_of_request state caller size moment nonce (Ok request) =
    outcome_of_step (call_step state (call_of caller request size moment nonce))
outcome_of_request state caller size moment nonce (Err early) = record { reply = Err early; state = state }
