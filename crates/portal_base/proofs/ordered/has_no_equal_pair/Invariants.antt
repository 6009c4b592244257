use Rattle.std.proofs.Common.{◌≡◌, length}
use Rattle.portal_base.specs.Ordered.{are_apart}
use Rattle.portal_base.proofs.ordered.has_no_equal_pair.Given as goal

-- The items are distinct exactly if the rest are.
abbrev pub invariant-loop-first : goal.invariant-loop-first
invariant-loop-first g l = are_apart g.T.Ordered.order l.items ≡ are_apart g.T.Ordered.order l.rest

abbrev pub decreases-loop-first : goal.decreases-loop-first
decreases-loop-first g l = length l.rest
