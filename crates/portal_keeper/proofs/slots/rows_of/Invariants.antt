use Rattle.std.proofs.Common.{◌≡◌, ◌++◌}
use Rattle.portal_keeper.specs.Slots.{slot_rows}
use Rattle.portal_keeper.proofs.slots.rows_of.Given as goal

-- The rows so far, and those of the remaining slots, are all rows.
abbrev pub invariant-loop-key : goal.invariant-loop-key
invariant-loop-key l = l.rows.items ++ slot_rows l.key-iterator ≡ slot_rows l.slots.entries
