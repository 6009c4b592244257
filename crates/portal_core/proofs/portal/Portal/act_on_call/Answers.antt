-- The call is the one that the step makes of it: a known caller's own, or nobody's.
use Rattle.std.proofs.Common.{◌≡◌, ◌∙◌, subst, sym}
use Rattle.std.specs.Prelude.{IfOk, OnOk}
use Rattle.portal_calls.specs.declared.call.Call.{Call}
use Rattle.portal_state.proofs.Knowing.{known-call, unknown-call}
use Rattle.portal_core.proofs.portal.Portal.act_on_call.Goals as goal
use Rattle.portal_state.specs.Step.{known_step}

pub returns-then-is_known-clause-reply : goal.returns-then-is_known-clause-reply
returns-then-is_known-clause-reply g c =
    subst (λ (k : Call). IfOk c.act_on_known.result (λ reply. reply ≡ (known_step c.args.self.now.state k).reply))
    (sym (known-call c.args.self.now.state.people c.args.call.now (sym c.is_known.ensures ∙ c.if-is_known.true)))
    c.act_on_known.ensures.reply

pub returns-then-is_known-clause-state : goal.returns-then-is_known-clause-state
returns-then-is_known-clause-state g c =
    subst (λ (k : Call). OnOk c.act_on_known.result (c.act_on_known.new.self.state ≡ (known_step c.args.self.now.state k).core))
    (sym (known-call c.args.self.now.state.people c.args.call.now (sym c.is_known.ensures ∙ c.if-is_known.true)))
    c.act_on_known.ensures.state

pub returns-clause-reply : goal.returns-clause-reply
returns-clause-reply g c =
    subst (λ (k : Call). IfOk c.act_on_known-2.result (λ reply. reply ≡ (known_step c.args.self.now.state k).reply))
    (c.in_ok-call.ensures
    ∙ sym (unknown-call c.args.self.now.state.people c.args.call.now (sym c.is_known.ensures ∙ c.if-is_known.false)))
    c.act_on_known-2.ensures.reply

pub returns-clause-state : goal.returns-clause-state
returns-clause-state g c =
    subst (λ (k : Call). OnOk c.act_on_known-2.result (c.act_on_known-2.new.self.state ≡ (known_step c.args.self.now.state k).core))
    (c.in_ok-call.ensures
    ∙ sym (unknown-call c.args.self.now.state.people c.args.call.now (sym c.is_known.ensures ∙ c.if-is_known.false)))
    c.act_on_known-2.ensures.state
