use Rattle.std.proofs.Common.{◌≡◌}
use Rattle.std.specs.List.{list_any}
use Rattle.slab.specs.Slab.{entries}
use Rattle.packages.proofs.walk.has.Given as goal

-- No entry before the remaining ones passes.
abbrev pub invariant-loop-entry : goal.invariant-loop-entry
invariant-loop-entry g l =
    (goal.iterator-loop-entry g).can_next l.entry-iterator
    × (goal.iterator-loop-entry g).is_finite l.entry-iterator
    × (list_any (λ e. g.T.Test.test l.test e.1) l.entry-iterator
    ≡ list_any (λ e. g.T.Test.test l.test e.1) (entries l.datasets))
