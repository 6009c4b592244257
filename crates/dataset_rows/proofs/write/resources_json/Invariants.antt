use Rattle.std.proofs.Common.{◌≡◌, map, take}
use Rattle.dataset_rows.specs.Rows.{resource_json}
use Rattle.dataset_rows.proofs.write.resources_json.Given as goal

-- the list has the values of the resources so far
abbrev pub invariant-loop-resource : goal.invariant-loop-resource
invariant-loop-resource l = l.list.items ≡ map resource_json (take l.resource-index l.resources)
