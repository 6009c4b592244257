-- Each turn plays one insert more, until none is left, one isn't granted, or a fault comes.
use Rattle.std.proofs.Common.{◌≡◌, ◌≤◌, Ok, Err, ap, refl, inl, inr, ◌∙◌, arith}
use Rattle.std.proofs.lemmas.Bool.Decides.{nat_tests}
use Rattle.portal_load.proofs.Inserting.{counted_more, counted_none, granted_within, not_too_long, plays_all, plays_end}
use Rattle.portal_load.proofs.Inserting.{plays_more, plays_none, plays_refused, plays_stop, within_turns}
use Rattle.portal_serve.proofs.Staging.{same_loans, same_loans_on}
use Rattle.portal_load.specs.declared.stop.LoadStop.TheVariants.{Refused}
use Rattle.portal_load.proofs.load.play_inserts.Goals as goal

pub loop-init : goal.loop-init
loop-init g c = record {
  resource = refl;
  goes_on = c.requires.goes_on;
  plays = plays_none _ _ _ _;
  received = counted_none _ _;
  reads = omega arith;
  within = inl refl;
  loan = refl;
  counts = omega arith;
  loans = same_loans _;
  keeps = omega arith;
}

pub loop-preserved : goal.loop-preserved
loop-preserved g c =
    let granted = c.in-Ok-true.is ∙ ap (λ b. Ok b) c.in-Ok-true.field-0-test in
    record {
      resource = c.play_insert.ensures.resource ∙ c.loop.invariant.resource;
      goes_on = c.in-Ok-true.ensures.goes_on;
      plays = plays_more c.args.task.now c.args.portal.now.state c.loop.portal.state c.play_insert.new.portal.state
          c.args.inserts.now.remaining c.loop.inserts.remaining c.play_insert.new.inserts.remaining _ _ _ c.loop.invariant.plays
          (c.play_insert.ensures.more granted);
      received = counted_more _ _ _ _ _ _ c.loop.invariant.received c.play_insert.ensures.received;
      reads = omega (arith, c.loop.invariant.reads, c.play_insert.ensures.reads);
      within = inr (granted_within c.play_insert.result _ _ c.in-Ok-true.is c.play_insert.ensures.too_long);
      loan = c.play_insert.ensures.loan ∙ c.loop.invariant.loan;
      counts = omega (arith, c.loop.invariant.counts, c.play_insert.ensures.counts);
      loans = same_loans_on _ _ _ c.loop.invariant.loans c.play_insert.ensures.loans;
      keeps = omega (arith, c.loop.invariant.keeps, c.play_insert.ensures.keeper_counts);
    }

pub returns-in-Ok-false-clause-done : goal.returns-in-Ok-false-clause-done
returns-in-Ok-false-clause-done g c =
    let end = c.play_insert.ensures.end (c.in-Ok-false.is ∙ ap (λ b. Ok b) c.in-Ok-false.field-0-test) in
    rw (end.2, end.3)
    (plays_all c.args.task.now c.args.portal.now.state c.loop.portal.state c.args.inserts.now.remaining c.loop.inserts.remaining _ _
    c.loop.invariant.plays end.0)

pub returns-in-Ok-false-clause-received : goal.returns-in-Ok-false-clause-received
returns-in-Ok-false-clause-received g c =
    counted_more _ _ _ _ _ _ c.loop.invariant.received c.play_insert.ensures.received

pub returns-in-Err-clause-ended : goal.returns-in-Err-clause-ended
returns-in-Err-clause-ended g c =
    plays_end c.args.task.now c.args.portal.now.state c.loop.portal.state c.play_insert.new.portal.state c.args.inserts.now.remaining
    c.loop.inserts.remaining _ _ _ c.in-Err.stop c.loop.invariant.plays c.in-Err.ensures.ended

pub returns-in-Err-clause-refused : goal.returns-in-Err-clause-refused
returns-in-Err-clause-refused g c =
    λ is.
    let same : c.in-Err.stop ≡ Refused = cc in
    plays_refused c.args.task.now c.args.portal.now.state c.loop.portal.state c.play_insert.new.portal.state
    c.args.inserts.now.remaining c.loop.inserts.remaining c.play_insert.new.inserts.remaining _ _ _
    c.loop.invariant.plays (c.play_insert.ensures.refused (c.in-Err.is ∙ ap (λ s. Err s) same))

pub returns-in-Err-clause-received : goal.returns-in-Err-clause-received
returns-in-Err-clause-received g c =
    counted_more _ _ _ _ _ _ c.loop.invariant.received c.play_insert.ensures.received

pub returns-clause-ended : goal.returns-clause-ended
returns-clause-ended g c =
    plays_stop 1 c.args.task.now c.args.portal.now.state c.loop.portal.state c.args.inserts.now.remaining c.loop.inserts.remaining _ _
    c.loop.invariant.plays

pub returns-clause-too_long : goal.returns-clause-too_long
returns-clause-too_long g c =
    let turns : 1 ≤ c.loop.counter = grind (arith, nat_tests, c.loop-test.false) in
    not_too_long _ _ (λ e. absurd (cc)) (within_turns c.loop.counter _ c.loop.invariant.within turns)
