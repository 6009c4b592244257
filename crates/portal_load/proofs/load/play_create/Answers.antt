-- The call's body is the one that was made for it.
use Rattle.std.proofs.Common.{[], ◌∷◌}
use Rattle.std.proofs.lemmas.Result.{err_from_is_err_and}
use Rattle.std.specs.Prelude.{IfErr, OnOk}
use Rattle.portal_load.proofs.Inserting.{ends_unbegun, on_create}
use Rattle.portal_load.specs.Progress.{CallsEnd, MakesOn}
use Rattle.portal_serve.specs.Stage.{trace_of}
use Rattle.portal_load.proofs.load.play_create.Goals as goal

pub returns-in_err-body-clause-ended : goal.returns-in_err-body-clause-ended
returns-in_err-body-clause-ended g c =
    ends_unbegun c.from_residual.result _ _ _ (err_from_is_err_and c.from_residual.result c.from_residual.ensures.1)

pub returns-in_err-text-clause-ended : goal.returns-in_err-text-clause-ended
returns-in_err-text-clause-ended g c =
    ends_unbegun c.from_residual-in_err-text.result _ _ _
    (err_from_is_err_and c.from_residual-in_err-text.result c.from_residual-in_err-text.ensures.1)

pub returns-clause-made : goal.returns-clause-made
returns-clause-made g c =
    on_create
    (λ call. OnOk c.play_call.result (MakesOn c.args.portal.now.state (call ∷ []) c.play_call.new.portal.state
    (trace_of g.O.Sink.taken g.C.Clock.given g.N.Nonces.given c.args.stage.now)
    (trace_of g.O.Sink.taken g.C.Clock.given g.N.Nonces.given c.play_call.new.stage)))
    c.args.task.now.caller.now c.args.task.now.resource.now c.args.schema c.in_ok-body.body c.in_ok-body.ensures.same
    c.play_call.ensures.made

pub returns-clause-ended : goal.returns-clause-ended
returns-clause-ended g c =
    on_create
    (λ call. IfErr c.play_call.result (CallsEnd c.args.portal.now.state (call ∷ []) c.play_call.new.portal.state
    (trace_of g.O.Sink.taken g.C.Clock.given g.N.Nonces.given c.args.stage.now)
    (trace_of g.O.Sink.taken g.C.Clock.given g.N.Nonces.given c.play_call.new.stage)))
    c.args.task.now.caller.now c.args.task.now.resource.now c.args.schema c.in_ok-body.body c.in_ok-body.ensures.same
    c.play_call.ensures.ended
