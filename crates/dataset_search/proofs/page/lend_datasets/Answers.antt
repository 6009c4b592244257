use Rattle.std.proofs.Common.{◌<◌, arith, length}
use Rattle.dataset_search.proofs.PageLemmas.{datasets_at-lent}
use Rattle.dataset_search.proofs.page.lend_datasets.Goals as goal

pub loop-number-preserved : goal.loop-number-preserved
loop-number-preserved g c =
    let within : c.loop-number.number-index < length c.args.numbers.now = omega arith in (
      datasets_at-lent c.args.shelf.now c.args.numbers.now c.loop-number.number-index c.look.result.now c.of.result
          c.loop-number.datasets.items c.push.new.self.items within c.look.ensures.dataset c.of.ensures
          c.loop-number.invariant.0 c.in_ok-push.ensures.items,
      omega arith,
    )
