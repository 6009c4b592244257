use Rattle.std.proofs.Common.{◌≡◌, take}
use Rattle.portal_base.proofs.json_value.copy.+copy_of.Given as goal

-- the values so far are copied
abbrev pub invariant-items_of-loop-item : goal.invariant-items_of-loop-item
invariant-items_of-loop-item l = l.copies.items ≡ take l.item-index l.item-items

abbrev pub invariant-members_of-loop-member : goal.invariant-members_of-loop-member
invariant-members_of-loop-member l = l.copies.items ≡ take l.member-index l.member-items
