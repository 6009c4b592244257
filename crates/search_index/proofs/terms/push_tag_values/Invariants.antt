use Rattle.std.proofs.Common.{◌≡◌, ◌++◌, map, take}
use Rattle.search_index.specs.declared.field.Field.TheVariants.{Tags}
use Rattle.search_index.specs.Terms.{term}
use Rattle.search_index.proofs.terms.push_tag_values.Given as goal

abbrev pub invariant-loop-tag : goal.invariant-loop-tag
invariant-loop-tag l = l.terms.items ≡ l.fn.terms.items ++ map (term Tags) (take l.tag-index l.tags)
