-- The reply and the state are those of the line's call.
use Rattle.portal_serve.proofs.Outcomes.{outcome_in, left_in}
use Rattle.portal_serve.proofs.calls.reply_to_call.Goals as goal

pub returns-clause-reply : goal.returns-clause-reply
returns-clause-reply g c =
    outcome_in _ (record { caller = c.args.caller; action = c.args.action.now; body = c.args.body }) _ _ _
    c.request_for-request.result c.reply_to_request.result c.request_for-request.ensures.value
    c.request_for-request.ensures.fault c.reply_to_request.ensures.reply c.reply_to_request.ensures.memory

pub returns-clause-state : goal.returns-clause-state
returns-clause-state g c =
    left_in _ _ (record { caller = c.args.caller; action = c.args.action.now; body = c.args.body }) _ _ _
    c.request_for-request.result c.reply_to_request.result c.request_for-request.ensures.value
    c.request_for-request.ensures.fault c.reply_to_request.ensures.state c.reply_to_request.ensures.memory
