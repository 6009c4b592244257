use Rattle.std.proofs.Common.{◌≡◌, filter, map, take}
use Rattle.facets.specs.Counts.{is_value}
use Rattle.facets.proofs.values.formats_in.Given as goal

abbrev pub invariant-loop-resource : goal.invariant-loop-resource
invariant-loop-resource l =
    l.values.items ≡ filter is_value (map (λ r. r.format) (take l.resource-index l.resources))
