use Rattle.std.proofs.Common.{◌≡◌, map, take}
use Rattle.facets.proofs.facts.formats_of.Given as goal

abbrev pub invariant-loop-resource : goal.invariant-loop-resource
invariant-loop-resource l = l.formats.items ≡ map (λ r. r.format) (take l.resource-index l.resources)
