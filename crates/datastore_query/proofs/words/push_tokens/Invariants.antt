use Rattle.std.proofs.Common.{◌≡◌, ◌++◌}
use Rattle.datastore_query.specs.Words.{cell_tokens}
use Rattle.datastore_query.proofs.words.push_tokens.Given as goal

abbrev pub invariant-loop-token : goal.invariant-loop-token
invariant-loop-token l =
    l.fn.found.items ++ cell_tokens l.cell ≡ l.found.items ++ l.token-iterator.rest.items
