use Rattle.std.proofs.Common.{◌≡◌, map}
use Rattle.std.specs.List.{All}
use Rattle.portal_keeper.specs.Changed.{rows_after}
use Rattle.portal_keeper.specs.Slots.{slot_rows, HasSlot, change_of}
use Rattle.portal_keeper.proofs.slots.write_slots.Given as goal

-- The remaining writes now give what all of them give, and each has its slot.
abbrev pub invariant-loop-write : goal.invariant-loop-write
invariant-loop-write l =
    (goal.iterator-loop-write).can_next l.write-iterator × (goal.iterator-loop-write).is_finite l.write-iterator
    × (rows_after (map change_of l.write-iterator.rest.items) (slot_rows l.slots.entries)
    ≡ rows_after (map change_of l.fn.writes.items) (slot_rows l.fn.slots.entries))
    × All (λ write. HasSlot l.slots.entries write.key) l.write-iterator.rest.items
