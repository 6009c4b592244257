use Rattle.std.proofs.Common.{◌≡◌, map, take}
use Rattle.portal_keeper.specs.Slots.{change_of}
use Rattle.portal_keeper.proofs.slots.writes_of.Given as goal

abbrev pub invariant-loop-change : goal.invariant-loop-change
invariant-loop-change l = map change_of l.writes.items ≡ take l.change-index l.changes
