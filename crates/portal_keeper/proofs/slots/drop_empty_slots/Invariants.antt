use Rattle.std.proofs.Common.{◌≡◌}
use Rattle.portal_keeper.specs.Slots.{slot_rows}
use Rattle.portal_keeper.proofs.slots.drop_empty_slots.Given as goal

abbrev pub invariant-loop-key : goal.invariant-loop-key
invariant-loop-key l = slot_rows l.slots.entries ≡ slot_rows l.fn.slots.entries
