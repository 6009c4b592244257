use Rattle.std.proofs.Common.{◌≡◌, ◌⊎◌, ◌≤◌, ◌^◌, false}
use Rattle.portal_load.proofs.Inserting.{PlaysTo}
use Rattle.portal_serve.specs.Stage.{AreSameLoans, trace_of}
use Rattle.row_inserts.specs.InsertsValue.{IsGiven}
use Rattle.portal_load.proofs.load.play_inserts.Given as goal

-- Each turn so far played an insert that was granted. After a turn the source is within its limit.
abbrev pub invariant-loop : goal.invariant-loop
invariant-loop g l = record {
  resource : l.inserts.resource ≡ l.fn.inserts.resource;
  goes_on : l.inserts.is_spent ≡ false;
  plays : PlaysTo l.fn.task l.fn.portal.state l.fn.inserts.remaining l.portal.state l.inserts.remaining
      (trace_of g.O.Sink.taken g.C.Clock.given g.N.Nonces.given l.fn.stage)
      (trace_of g.O.Sink.taken g.C.Clock.given g.N.Nonces.given l.stage);
  received : IsGiven g.S.Source.to_come l.fn.inserts l.inserts;
  reads : g.S.Source.faults l.fn.inserts.source ≤ g.S.Source.faults l.inserts.source;
  within : (l.counter ≡ 0) ⊎ (l.inserts.given ≤ 2 ^ 40);
  loan : g.S.Source.loan l.inserts.source ≡ g.S.Source.loan l.fn.inserts.source;
  counts : g.O.Sink.faults l.fn.stage.output.now ≤ g.O.Sink.faults l.stage.output.now;
  loans : AreSameLoans l.fn.stage l.stage;
  keeps : g.P.Keeper.faults l.fn.portal.keeper ≤ g.P.Keeper.faults l.portal.keeper;
}
