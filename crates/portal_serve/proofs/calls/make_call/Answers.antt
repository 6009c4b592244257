-- Whatever stops the call, its moment and its nonce were drawn, and output took some prefix of its line.
use Rattle.std.proofs.Common.{◌∙◌, ap, inr}
use Rattle.portal_serve.proofs.Making.{begins_call, begins_call_unwritten}
use Rattle.portal_serve.proofs.Staging.{prefix_from}
use Rattle.portal_links.proofs.Passing.{DrawsAll-once, DrawsAll-one}
use Rattle.portal_serve.proofs.Working.{on_err_always}
use Rattle.portal_serve.specs.Values.{script_call}
use Rattle.portal_serve.proofs.calls.make_call.Goals as goal

pub returns-in_err-processed-clause-begun : goal.returns-in_err-processed-clause-begun
returns-in_err-processed-clause-begun g c =
    on_err_always c.from_residual.result
    (begins_call_unwritten _ _ (script_call c.args.call) _ _ _ _ _ c.in_err-processed.ensures.stopped
    (DrawsAll-one _ _ _ c.draw-moment.ensures.moment) (DrawsAll-one _ _ _ c.draw-moment.ensures.nonce)
    (ap g.O.Sink.taken c.draw-moment.ensures.output))

pub returns-in_err-write_line-clause-begun : goal.returns-in_err-write_line-clause-begun
returns-in_err-write_line-clause-begun g c =
    on_err_always c.from_residual-in_err-write_line.result
    (begins_call _ _ (script_call c.args.call) _ _ _ _ _ _ (c.as_slice.ensures ∙ c.in_ok-processed.ensures.line)
    (inr c.in_ok-processed.ensures.state)
    (DrawsAll-once _ _ _ _ c.draw-moment.ensures.moment (ap g.C.Clock.given c.write_line.ensures.clock))
    (DrawsAll-once _ _ _ _ c.draw-moment.ensures.nonce (ap g.N.Nonces.given c.write_line.ensures.nonces))
    (prefix_from c.as_slice.result.now (ap g.O.Sink.taken c.draw-moment.ensures.output)
    c.in_err-write_line.ensures.failed))
