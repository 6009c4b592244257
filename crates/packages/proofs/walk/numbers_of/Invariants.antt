use Rattle.std.proofs.Common.{◌≡◌, ◌++◌, ◌<◌, ◌^◌, map}
use Rattle.std.specs.List.{All}
use Rattle.slab.specs.Slab.{entries}
use Rattle.packages.proofs.walk.numbers_of.Given as goal

-- The numbers so far and those of the remaining entries are all numbers, and the remaining ones are below 2^32.
abbrev pub invariant-loop-entry : goal.invariant-loop-entry
invariant-loop-entry l =
    goal.iterator-loop-entry.can_next l.entry-iterator
    × goal.iterator-loop-entry.is_finite l.entry-iterator
    × (l.numbers.items ++ map (λ e. e.0) l.entry-iterator ≡ map (λ e. e.0) (entries l.datasets))
    × All (λ e. e.0 < 2 ^ 32) l.entry-iterator
