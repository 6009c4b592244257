-- The reply is that of the step, which takes a caller whom no user has for nobody.
use Rattle.std.proofs.Common.{◌≡◌, ◌∙◌, IfOk, ap, subst, sym}
use Rattle.portal_base.specs.declared.caller.Caller.{Caller}
use Rattle.portal_base.specs.declared.caller.Caller.TheVariants.{Anonymous}
use Rattle.portal_calls.specs.declared.call.Call.{Call}
use Rattle.portal_events.specs.declared.event.Reply.{Reply}
use Rattle.portal_state.specs.Known.{is_known}
use Rattle.portal_state.specs.Search.{search_reply}
use Rattle.portal_state.specs.Step.{known_step}
use Rattle.portal_state.specs.View.{view_of}
use Rattle.portal_state.proofs.Knowing.{known-call, unknown-call}
use Rattle.portal_core.proofs.SearchSteps.{search_step}
use Rattle.portal_core.proofs.portal.Portal.search.Goals as goal

pub returns-then-is_known : goal.returns-then-is_known
returns-then-is_known g c = λ call caller asked.
    let state = c.args.self.now.state in
    let body = c.args.body.now in
    subst (λ (r : Reply). IfOk c.search_for.result (λ reply. reply ≡ r))
    (sym (ap (λ (k : Call). (known_step state k).reply)
    (known-call state.people call (ap (is_known state.people) caller ∙ sym c.is_known.ensures ∙ c.if-is_known.true))
    ∙ search_step state call body asked
    ∙ ap (λ (who : Caller). search_reply body (view_of who state)) caller))
    c.search_for.ensures

pub returns-else-is_known : goal.returns-else-is_known
returns-else-is_known g c = λ call caller asked.
    let state = c.args.self.now.state in
    let body = c.args.body.now in
    subst (λ (r : Reply). IfOk c.search_for-else-is_known.result (λ reply. reply ≡ r))
    (sym (ap (λ (k : Call). (known_step state k).reply)
    (unknown-call state.people call (ap (is_known state.people) caller ∙ sym c.is_known.ensures ∙ c.if-is_known.false))
    ∙ search_step state (record call { caller = Anonymous }) body asked))
    c.search_for-else-is_known.ensures
