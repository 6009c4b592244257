use Rattle.std.proofs.Common.{ap, arith}
use Rattle.std.proofs.lemmas.Grind.{common_steps}
use Rattle.typed_csv.proofs.ReceivedLemmas.{Receives-same, received_on, received_same}
use Rattle.typed_csv.proofs.record_reader.RecordReader.next.Goals as goal

pub returns-in_err-advance-clause-received : goal.returns-in_err-advance-clause-received
returns-in_err-advance-clause-received g c =
    received_on (g.S.Source.to_come c.args.self.now.source) (g.S.Source.to_come c.self-in-loop-next.inside.source)
    (g.S.Source.to_come c.advance.new.self.source)
    c.args.self.now.given c.self-in-loop-next.inside.given c.advance.new.self.given
    (Receives-same g.S.Source.to_come c.args.self.now c.loop-next.self _ c.self-in-loop-next.view_is
    c.loop-next.invariant.received)
    c.in_err-advance.ensures.received

pub returns-in_err-take_last-clause-received : goal.returns-in_err-take_last-clause-received
returns-in_err-take_last-clause-received g c =
    received_same (g.S.Source.to_come c.args.self.now.source) (g.S.Source.to_come c.advance.new.self.source)
    (g.S.Source.to_come c.take_last.new.self.source)
    c.args.self.now.given c.advance.new.self.given c.take_last.new.self.given
    (ap g.S.Source.to_come c.in_err-take_last.ensures.source) c.in_err-take_last.ensures.given
    (received_on (g.S.Source.to_come c.args.self.now.source) (g.S.Source.to_come c.self-in-loop-next.inside.source)
    (g.S.Source.to_come c.advance.new.self.source)
    c.args.self.now.given c.self-in-loop-next.inside.given c.advance.new.self.given
    (Receives-same g.S.Source.to_come c.args.self.now c.loop-next.self _ c.self-in-loop-next.view_is
    c.loop-next.invariant.received)
    c.in_ok-advance.ensures.received)

pub returns-then-not-branch-clause-received : goal.returns-then-not-branch-clause-received
returns-then-not-branch-clause-received g c =
    received_same (g.S.Source.to_come c.args.self.now.source) (g.S.Source.to_come c.advance.new.self.source)
    (g.S.Source.to_come c.take_last.new.self.source)
    c.args.self.now.given c.advance.new.self.given c.take_last.new.self.given
    (ap g.S.Source.to_come c.in_ok-take_last.ensures.source) c.in_ok-take_last.ensures.given
    (received_on (g.S.Source.to_come c.args.self.now.source) (g.S.Source.to_come c.self-in-loop-next.inside.source)
    (g.S.Source.to_come c.advance.new.self.source)
    c.args.self.now.given c.self-in-loop-next.inside.given c.advance.new.self.given
    (Receives-same g.S.Source.to_come c.args.self.now c.loop-next.self _ c.self-in-loop-next.view_is
    c.loop-next.invariant.received)
    c.in_ok-advance.ensures.received)

pub loop-next-preserved : goal.loop-next-preserved
loop-next-preserved g c =
    record {
      remaining = grind (arith, common_steps);
      received =
          received_on (g.S.Source.to_come c.args.self.now.source)
          (g.S.Source.to_come c.self-in-loop-next.inside.source) (g.S.Source.to_come c.advance.new.self.source)
          c.args.self.now.given c.self-in-loop-next.inside.given c.advance.new.self.given
          (Receives-same g.S.Source.to_come c.args.self.now c.loop-next.self _ c.self-in-loop-next.view_is
          c.loop-next.invariant.received)
          c.in_ok-advance.ensures.received;
      counts = grind (arith, c.in_ok-advance.ensures.counts, c.loop-next.invariant.counts);
      loan = grind (arith, c.in_ok-advance.ensures.loan, c.loop-next.invariant.loan);
      within = grind (arith, common_steps);
      held = grind (arith, common_steps);
    }
