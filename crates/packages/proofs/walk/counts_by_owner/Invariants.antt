use Rattle.std.proofs.Common.{◌≡◌, ◌+◌, ◌&&◌, ℕ, List, filter, length}
use Rattle.std.specs.Str.{bytes_eq}
use Rattle.slab.specs.Slab.{entries}
use Rattle.packages.specs.Owners.{count_at}
use Rattle.packages.proofs.walk.counts_by_owner.Given as goal

-- Each owner's count, with that of the remaining entries, is its count of all entries.
abbrev pub invariant-loop-entry : goal.invariant-loop-entry
invariant-loop-entry g l =
    (goal.iterator-loop-entry g).can_next l.entry-iterator
    × (goal.iterator-loop-entry g).is_finite l.entry-iterator
    × ((owner : List ℕ) → count_at owner l.counts
    + length (filter (λ e. bytes_eq e.1.owner_org owner && g.T.Test.test l.test e.1) l.entry-iterator)
    ≡ length (filter (λ e. bytes_eq e.1.owner_org owner && g.T.Test.test l.test e.1) (entries l.datasets)))
