use Rattle.std.proofs.Common.{◌≡◌, ◌∙◌, arith, map}
use Rattle.search_index.proofs.FillLemmas.{filled-more}
use Rattle.search_index.proofs.index.Index.of.Goals as goal

pub loop-number-preserved : goal.loop-number-preserved
loop-number-preserved c =
    let all : c.as_slice-number-items.result.now ≡ map (λ e. e.0) c.args.shelf.now.entries =
    c.as_slice-number-items.ensures.value ∙ c.in_ok-numbers.ensures in
    filled-more c.args.shelf.now c.requires c.as_slice-number-items.result.now c.loop-number.number-index all
    (omega (arith, c.loop-number-test.true)) c.loop-number.index.entries c.enter.new.self.entries
    c.loop-number.invariant c.in_ok-enter.ensures
