use Rattle.std.proofs.Common.{◌≡◌, map, take}
use Rattle.harvest_rows.specs.Readings.{bad_in}
use Rattle.harvest_rows.proofs.report_reading.bad_list_in.Given as goal

-- the objects of the items so far
abbrev pub invariant-loop-item : goal.invariant-loop-item
invariant-loop-item l = l.bad.items ≡ map bad_in (take l.item-index l.items)
