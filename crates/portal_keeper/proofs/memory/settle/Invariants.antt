use Rattle.std.proofs.Common.{◌≡◌, ◌++◌, length}
use Rattle.portal_keeper.specs.Slots.{slot_rows}
use Rattle.portal_keeper.proofs.memory.settle.Given as goal

abbrev pub invariant-loop-row : goal.invariant-loop-row
invariant-loop-row l =
    l.given.items ++ slot_rows l.slots.entries ≡ l.fn.given.items ++ slot_rows l.fn.slots.entries

abbrev pub decreases-loop-row : goal.decreases-loop-row
decreases-loop-row l = length l.given.items
