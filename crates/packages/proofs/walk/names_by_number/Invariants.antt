use Rattle.std.proofs.Common.{◌≡◌, ◌++◌, filter, map}
use Rattle.slab.specs.Slab.{entries}
use Rattle.packages.proofs.walk.names_by_number.Given as goal

-- The names so far and those of the remaining entries that pass are all names.
abbrev pub invariant-loop-entry : goal.invariant-loop-entry
invariant-loop-entry g l =
    (goal.iterator-loop-entry g).can_next l.entry-iterator
    × (goal.iterator-loop-entry g).is_finite l.entry-iterator
    × (l.names.items ++ map (λ e. e.1.name) (filter (λ e. g.T.Test.test l.test e.1) l.entry-iterator)
    ≡ map (λ e. e.1.name) (filter (λ e. g.T.Test.test l.test e.1) (entries l.datasets)))
