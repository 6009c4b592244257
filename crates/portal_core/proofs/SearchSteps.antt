-- The step of a search is the reply with what is found in its caller's view.
use Rattle.std.proofs.Common.{◌≡◌, Result, Ok, Err, refl, subst, sym}
use Rattle.portal_base.specs.declared.json_value.Json.{Json}
use Rattle.datastore_answers.specs.Summaries.{summaries_of}
use Rattle.datastore_answers.specs.TableAnswers.{map_answer}
use Rattle.portal_calls.specs.Answer.{answer_if_found}
use Rattle.portal_calls.specs.declared.action.Action.TheVariants.{PackageSearch}
use Rattle.portal_calls.specs.declared.answer.Answer.TheVariants.{Shown}
use Rattle.portal_calls.specs.declared.answer.Denial.{Denial}
use Rattle.portal_calls.specs.declared.call.Call.{Call}
use Rattle.portal_calls.specs.declared.call.Request.{Request}
use Rattle.portal_state.specs.Change.{Change}
use Rattle.portal_state.specs.Planned.{PlannedChange, change_of}
use Rattle.portal_state.specs.Search.{reply_if_found, search_outcome, search_reply}
use Rattle.portal_state.specs.State.{State}
use Rattle.portal_state.specs.Step.{known_step, outcome_of}
use Rattle.portal_state.specs.View.{view_of}

shown_reply : (found : Result Json Denial) (f : PlannedChange → Change) (call : Call) (state : State)
    → (outcome_of (map_answer f (answer_if_found found Shown)) call state).reply ≡ reply_if_found found
shown_reply (Ok json) f call state = refl
shown_reply (Err denial) f call state = refl

pub search_step : (state : State) (call : Call) (body : Json)
    → call.request ≡ record { action = PackageSearch; body = body }
    → (known_step state call).reply ≡ search_reply body (view_of call.caller state)
search_step state call body asked =
    let view : State = view_of call.caller state in
    subst (λ (r : Request). (known_step state (record call { request = r })).reply ≡ search_reply body view) (sym asked)
    (shown_reply (search_outcome body view.people view.datasets (summaries_of view.tables))
    (λ planned. change_of planned view)
    (record call { request = record { action = PackageSearch; body = body } }) state)
