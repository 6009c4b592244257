-- Each pushed resource has the next number.
use Rattle.std.proofs.Common.{arith}
use Rattle.harvest_results.proofs.NumberLemmas.{numbered_from-more}
use Rattle.harvest_results.proofs.dataset.numbered.Goals as goal

pub loop-distribution-preserved : goal.loop-distribution-preserved
loop-distribution-preserved c =
    let l = c.loop-distribution in
    let more =
    numbered_from-more 1 l.distribution-index l.number c.args.distributions.now c.distribution-item.result
    c.loop-distribution-test.true (omega arith) in
    record { count = omega arith; numbered = cc (more, c.in_ok-push.ensures.items, c.in_ok-resource_of.ensures) }
