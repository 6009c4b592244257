-- The status, the line and the state are those of the call, also where there is no memory for its line.
use Rattle.std.proofs.Common.{ap, inr, ◌∙◌}
use Rattle.action_api.specs.Reply.{reply_status}
use Rattle.portal_serve.proofs.Outcomes.{line_written, outcome_as}
use Rattle.portal_serve.proofs.Working.{on_err_always}
use Rattle.portal_serve.specs.RequestOutcome.{RequestOutcome}
use Rattle.portal_serve.specs.Values.{script_call}
use Rattle.portal_serve.proofs.calls.process_call.Goals as goal

pub returns-in_err-line-clause-stopped : goal.returns-in_err-line-clause-stopped
returns-in_err-line-clause-stopped g c =
    on_err_always c.from_residual-in_err-line.result (inr (c.in_ok-reply.ensures.state
    ∙ ap (λ (r : RequestOutcome). r.state) (outcome_as _ (script_call c.args.call) _ _ _ _ c.as_str.ensures)))

pub returns-clause-status : goal.returns-clause-status
returns-clause-status g c =
    c.status_of-status.ensures
    ∙ ap reply_status (c.in_ok-reply.ensures.reply
    ∙ ap (λ (r : RequestOutcome). r.reply) (outcome_as _ (script_call c.args.call) _ _ _ _ c.as_str.ensures))

pub returns-clause-line : goal.returns-clause-line
returns-clause-line g c =
    line_written _ (script_call c.args.call) _ _ _ _ _ _ _ c.as_str.ensures c.as_str-2.ensures
    c.in_ok-reply.ensures.reply c.in_ok-line.ensures

pub returns-clause-state : goal.returns-clause-state
returns-clause-state g c =
    c.in_ok-reply.ensures.state
    ∙ ap (λ (r : RequestOutcome). r.state) (outcome_as _ (script_call c.args.call) _ _ _ _ c.as_str.ensures)
