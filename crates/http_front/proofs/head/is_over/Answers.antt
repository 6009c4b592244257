use Rattle.http_front.proofs.StartLemmas.{over_named, over_ended, stays_ended}
use Rattle.http_front.proofs.head.is_over.Goals as goal

pub returns-then-branch-clause-over : goal.returns-then-branch-clause-over
returns-then-branch-clause-over c is = over_named c.args.text.now (c.in_ok-exceeds_with.ensures.over c.if-branch.true)

pub returns-clause-over : goal.returns-clause-over
returns-clause-over c = over_ended c.args.text.now c.exceeds_with-2.result c.exceeds_with-2.ensures.over

pub returns-clause-fits : goal.returns-clause-fits
returns-clause-fits c = stays_ended c.args.text.now c.exceeds_with-2.result
    (c.in_ok-exceeds_with.ensures.fits c.if-branch.false) c.exceeds_with-2.ensures.fits
