use Rattle.std.proofs.Common.{◌≡◌, ◌+◌, filter, length, not}
use Rattle.slab.specs.Slab.{entries}
use Rattle.packages.proofs.walk.count_of.Given as goal

-- The count is that of the entries that pass and of the remaining ones that fail.
abbrev pub invariant-loop-entry : goal.invariant-loop-entry
invariant-loop-entry g l =
    (goal.iterator-loop-entry g).can_next l.entry-iterator
    × (goal.iterator-loop-entry g).is_finite l.entry-iterator
    × (l.count
    ≡ length (filter (λ e. g.T.Test.test l.test e.1) (entries l.datasets))
    + length (filter (λ e. not (g.T.Test.test l.test e.1)) l.entry-iterator))
