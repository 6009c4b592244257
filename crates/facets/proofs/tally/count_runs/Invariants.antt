use Rattle.std.proofs.Common.{◌≡◌, ◌++◌, ℕ, List, length, reverse}
use Rattle.facets.specs.Tally.{runs}
use Rattle.facets.proofs.tally.count_runs.Given as goal

-- the runs of the texts that were taken, which followed the remaining ones
abbrev pub invariant-loop-text : goal.invariant-loop-text
invariant-loop-text l =
    (taken : List (List ℕ)) × (l.fn.texts.items ≡ l.rest.items ++ taken) × (reverse l.counts.items ≡ runs taken)

abbrev pub decreases-loop-text : goal.decreases-loop-text
decreases-loop-text l = length l.rest.items
