use Rattle.std.proofs.Common.{◌≡◌, ℕ, ◌<◌, get_or}
use Rattle.portal_keeper.specs.declared.slots.RowKey.{RowKey}
use Rattle.portal_keeper.specs.Slots.{slot_rows, HasSlot}
use Rattle.portal_keeper.proofs.slots.reserve_slots.Given as goal

-- No row changed, and the keys so far have slots.
abbrev pub invariant-loop-key : goal.invariant-loop-key
invariant-loop-key l =
    (slot_rows l.slots.entries ≡ slot_rows l.fn.slots.entries)
    × ((k : ℕ) (d : RowKey) → k < l.key-index → HasSlot l.slots.entries (get_or l.keys k d))
