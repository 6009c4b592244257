use Rattle.std.proofs.Common.{◌≡◌, ◌++◌, map, take}
use Rattle.search_index.specs.declared.field.Field.TheVariants.{ResFormat}
use Rattle.search_index.specs.Terms.{term}
use Rattle.search_index.proofs.terms.push_formats.Given as goal

abbrev pub invariant-loop-resource : goal.invariant-loop-resource
invariant-loop-resource l =
    l.terms.items ≡ l.fn.terms.items ++ map (λ r. term ResFormat r.format) (take l.resource-index l.resources)
