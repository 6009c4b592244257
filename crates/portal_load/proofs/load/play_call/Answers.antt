-- The call's one exchange is what it was made or begun with.
use Rattle.std.proofs.Common.{◌≢◌, arith}
use Rattle.std.proofs.lemmas.Result.{err_from_is_err_and}
use Rattle.portal_load.proofs.Inserting.{ends_begun, ends_unbegun, makes_said, refuses_said, stops_said}
use Rattle.portal_load.proofs.load.play_call.Goals as goal

pub returns-in_err-try_clone-clause-ended : goal.returns-in_err-try_clone-clause-ended
returns-in_err-try_clone-clause-ended g c =
    ends_unbegun c.from_residual.result _ _ _ (err_from_is_err_and c.from_residual.result c.from_residual.ensures.1)

pub returns-in-200-clause-made : goal.returns-in-200-clause-made
returns-in-200-clause-made g c =
    makes_said c.args.portal.now.state c.make_call.new.portal.state c.in_ok-try_clone.field-0 c.args.task.now.caller.now
    c.from_static.result c.args.action.now c.args.body c.args.size c.in-Ok.status _ _
    c.in_ok-try_clone.ensures c.from_static.ensures c.requires c.in-200.is c.in-Ok.ensures.made

pub returns-in_default-clause-ended : goal.returns-in_default-clause-ended
returns-in_default-clause-ended g c =
    let refused : c.in-Ok.status ≢ 200 = omega arith in
    refuses_said c.args.portal.now.state c.make_call.new.portal.state c.in_ok-try_clone.field-0 c.args.task.now.caller.now
    c.from_static.result c.args.action.now c.args.body c.args.size c.in-Ok.status _ _
    c.in_ok-try_clone.ensures c.from_static.ensures c.requires refused c.in-Ok.ensures.made

pub returns-in-Err-clause-ended : goal.returns-in-Err-clause-ended
returns-in-Err-clause-ended g c =
    rw c.fault_of_stop.ensures
    (ends_begun _ _ _ _ _ c.in-Err.stop
    (stops_said c.args.portal.now.state c.make_call.new.portal.state c.in_ok-try_clone.field-0 c.args.task.now.caller.now
    c.from_static.result c.args.action.now c.args.body c.args.size _ _ c.in_ok-try_clone.ensures c.from_static.ensures
    c.requires c.in-Err.ensures.begun))
