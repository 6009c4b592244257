use Rattle.std.proofs.Common.{◌≡◌, map, take}
use Rattle.dataset_rows.specs.Reading.{resource_in}
use Rattle.dataset_rows.proofs.read.resources_in.Given as goal

-- the resources of the items so far
abbrev pub invariant-loop-item : goal.invariant-loop-item
invariant-loop-item l = l.resources.items ≡ map resource_in (take l.item-index l.items)
