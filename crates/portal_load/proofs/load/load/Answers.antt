-- A fault of the schema is reported before anything is played. With a schema, the calls are those that were played.
use Rattle.std.proofs.Common.{Err, arith, rules}
use Rattle.std.proofs.lemmas.Grind.{common_steps}
use Rattle.portal_load.proofs.Loading.{loads_at, loads_not, too_long_by}
use Rattle.portal_load.specs.Load.{load_task}
use Rattle.portal_serve.specs.Run.{device_trace, stage_trace}
use Rattle.portal_load.proofs.load.load.Goals as goal

pub returns-in-Err-clause-loads : goal.returns-in-Err-clause-loads
returns-in-Err-clause-loads g c = (
  Err c.stop_of_schema.result,
  c.status_of_end.ensures,
  λ whole observed. loads_not
      (load_task c.args.caller.now c.args.schema.now c.args.resource.now) c.args.portal.now.state whole
      (g.S.Source.to_come c.args.input.now)
      (stage_trace (g.O.Sink.taken c.args.output.now) (g.C.Clock.given c.args.clock.now) (g.N.Nonces.given c.args.nonces.now))
      c.in-Err.fault c.stop_of_schema.result observed c.in-Err.ensures.fault c.stop_of_schema.ensures.reported
      c.stop_of_schema.ensures.memory,
)

pub returns-clause-loads : goal.returns-clause-loads
returns-clause-loads g c = (
  c.load_by.result,
  c.status_of_end-2.ensures,
  λ whole observed. loads_at (load_task c.args.caller.now c.args.schema.now c.args.resource.now) c.args.portal.now.state
      c.load_by.new.portal.state whole
      (device_trace (g.S.Source.to_come c.args.input.now) (g.O.Sink.taken c.args.output.now)
      (g.C.Clock.given c.args.clock.now) (g.N.Nonces.given c.args.nonces.now))
      (g.S.Source.to_come c.load_by.new.input)
      (g.O.Sink.taken c.load_by.new.stage.output.now) (g.O.Sink.taken c.output-1.given.0)
      (g.C.Clock.given c.load_by.new.stage.clock.now) (g.C.Clock.given c.clock-1.given.0)
      (g.N.Nonces.given c.load_by.new.stage.nonces.now) (g.N.Nonces.given c.nonces-1.given.0)
      c.load_by.result
      (c.load_by.ensures.loads c.args.schema.now whole c.in-Ok.ensures.json observed)
      (first_of (search rules, grind (arith, common_steps), cc))
      (first_of (search rules, grind (arith, common_steps), cc))
      (first_of (search rules, grind (arith, common_steps), cc)),
)

pub returns-clause-too_much : goal.returns-clause-too_much
returns-clause-too_much g c =
    λ whole observed. rw c.status_of_end-2.ensures
    (too_long_by c.load_by.result _ (c.load_by.ensures.too_much whole observed))
