use Rattle.std.proofs.Common.{◌≡◌, take}
use Rattle.portal_base.proofs.seq.SeqTryClone.try_clone.Given as goal

-- The items so far are copied.
abbrev pub invariant-loop-item : goal.invariant-loop-item
invariant-loop-item g l = l.items.items ≡ take l.item-index l.item-items
