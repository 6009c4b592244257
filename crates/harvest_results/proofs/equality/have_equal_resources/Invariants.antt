use Rattle.std.proofs.Common.{◌≡◌, drop, length}
use Rattle.std.specs.Cmp.Lexicographic.{pointwise}
use Rattle.harvest_results.specs.Equality.{equal_resources}
use Rattle.harvest_results.proofs.equality.have_equal_resources.Given as goal

-- the pairs so far are equal
abbrev pub invariant-loop-index : goal.invariant-loop-index
invariant-loop-index l =
    (length l.one ≡ length l.other)
    × (pointwise equal_resources (drop l.index l.one) (drop l.index l.other)
    ≡ pointwise equal_resources l.one l.other)
