-- The call's body is the one that was made for it.
use Rattle.std.proofs.Common.{◌∙◌, ap, inl, inr, refl, rules}
use Rattle.std.specs.Prelude.{IfOk, OnErr}
use Rattle.portal_start.specs.HarvestCommand.{job_body}
use Rattle.portal_serve.specs.Calls.{BeginsCall, MakesCall}
use Rattle.portal_serve.specs.Stage.{trace_of}
use Rattle.portal_serve.proofs.Working.{on_err_always}
use Rattle.portal_start.proofs.Harvesting.{on_err_as, on_job}
use Rattle.portal_start.proofs.harvest.make_job.Goals as goal

pub returns-in_err-body-clause-stopped : goal.returns-in_err-body-clause-stopped
returns-in_err-body-clause-stopped g c = on_err_always c.from_residual.result (inr (refl, refl))

pub returns-in_err-text-clause-stopped : goal.returns-in_err-text-clause-stopped
returns-in_err-text-clause-stopped g c = on_err_always c.from_residual-in_err-text.result (inr (refl, refl))

pub returns-in_err-try_clone-clause-stopped : goal.returns-in_err-try_clone-clause-stopped
returns-in_err-try_clone-clause-stopped g c = on_err_always c.from_residual-in_err-try_clone.result (inr (refl, refl))

pub returns-clause-made : goal.returns-clause-made
returns-clause-made g c =
    on_job
    (λ call size. IfOk c.make_call.result (λ reply. MakesCall c.args.portal.now.state call size reply
    c.make_call.new.portal.state
    (trace_of g.O.Sink.taken g.C.Clock.given g.N.Nonces.given c.args.stage.now)
    (trace_of g.O.Sink.taken g.C.Clock.given g.N.Nonces.given c.make_call.new.stage)))
    c.args.options.now c.in_ok-try_clone.field-0 c.from_static.result c.in_ok-body.body c.len-size.result
    c.in_ok-try_clone.ensures c.from_static.ensures (c.in_ok-body.ensures.same ∙ ap job_body c.as_str.ensures)
    (search rules) c.make_call.ensures.made

pub returns-clause-stopped : goal.returns-clause-stopped
returns-clause-stopped g c =
    on_err_as c.make_call.result (λ begun. inl begun)
    (on_job
    (λ call size. OnErr c.make_call.result (BeginsCall c.args.portal.now.state call size
    c.make_call.new.portal.state
    (trace_of g.O.Sink.taken g.C.Clock.given g.N.Nonces.given c.args.stage.now)
    (trace_of g.O.Sink.taken g.C.Clock.given g.N.Nonces.given c.make_call.new.stage)))
    c.args.options.now c.in_ok-try_clone.field-0 c.from_static.result c.in_ok-body.body c.len-size.result
    c.in_ok-try_clone.ensures c.from_static.ensures (c.in_ok-body.ensures.same ∙ ap job_body c.as_str.ensures)
    (search rules) c.make_call.ensures.begun)
