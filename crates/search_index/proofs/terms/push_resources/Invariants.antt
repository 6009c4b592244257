use Rattle.std.proofs.Common.{◌≡◌, ◌++◌, flat_map, take}
use Rattle.search_index.specs.Terms.{resource_terms}
use Rattle.search_index.proofs.terms.push_resources.Given as goal

abbrev pub invariant-loop-resource : goal.invariant-loop-resource
invariant-loop-resource l = l.terms.items ≡ l.fn.terms.items ++ flat_map resource_terms (take l.resource-index l.resources)
