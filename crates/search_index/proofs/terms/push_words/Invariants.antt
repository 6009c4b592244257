use Rattle.std.proofs.Common.{◌≡◌, ◌++◌, map, take}
use Rattle.search_index.specs.Terms.{term}
use Rattle.search_index.proofs.terms.push_words.Given as goal

abbrev pub invariant-loop-token : goal.invariant-loop-token
invariant-loop-token l = l.terms.items ≡ l.fn.terms.items ++ map (term l.field) (take l.token-index l.token-items)
