use Rattle.std.proofs.Common.{◌≡◌, ◌++◌, flat_map, take}
use Rattle.search_index.specs.declared.field.Field.TheVariants.{Anywhere}
use Rattle.search_index.specs.Terms.{word_terms}
use Rattle.search_index.proofs.terms.push_tags.Given as goal

abbrev pub invariant-loop-tag : goal.invariant-loop-tag
invariant-loop-tag l = l.terms.items ≡ l.fn.terms.items ++ flat_map (word_terms Anywhere) (take l.tag-index l.tags)
