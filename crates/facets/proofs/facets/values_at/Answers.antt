use Rattle.std.proofs.Common.{◌<◌, arith, length}
use Rattle.facets.proofs.EntryLemmas.{values-more}
use Rattle.facets.proofs.facets.values_at.Goals as goal

pub loop-number-preserved : goal.loop-number-preserved
loop-number-preserved g c =
    let within : c.loop-number.number-index < length c.args.numbers.now = omega arith in (
      values-more c.args.field c.args.shelf.now c.args.numbers.now c.loop-number.number-index c.look-dataset.result.now
          c.loop-number.values.items c.push_values.new.values.items within c.look-dataset.ensures.dataset
          c.loop-number.invariant.0 c.in_ok-push_values.ensures,
      omega arith,
    )
