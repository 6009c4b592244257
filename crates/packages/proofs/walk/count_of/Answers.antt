-- At first all entries remain, each of which passes or fails.
use Rattle.std.proofs.Common.{ℕ, Bool, ◌∙◌, ◌+◌, filter, length, not, sym, ap}
use Rattle.slab.specs.Slab.{entries}
use Rattle.slab.proofs.SlabLemmas.{length-entries}
use Rattle.packages.specs.declared.package.Package.{Package}
use Rattle.packages.proofs.FindLemmas.{count-both}
use Rattle.packages.proofs.walk.count_of.Goals as goal

pub loop-entry-init : goal.loop-entry-init
loop-entry-init g c =
    let left = c.into_iter-entry-iterator.ensures.into_iter_gives ∙ c.iter-entry-items.ensures.rest in
    let passes : ℕ × Package → Bool = λ e. g.T.Test.test c.args.test.now e.1 in (
      tt,
      tt,
      c.len-count.ensures ∙ sym (length-entries c.args.datasets.now) ∙ count-both passes (entries c.args.datasets.now)
          ∙ ap (λ es. length (filter passes (entries c.args.datasets.now)) + length (filter (λ e. not (passes e)) es))
          (sym left),
    )
