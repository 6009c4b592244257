use Rattle.std.proofs.Common.{◌≡◌, flat_map, take}
use Rattle.datastore_query.specs.Words.{cell_tokens}
use Rattle.datastore_query.proofs.words.row_tokens.Given as goal

abbrev pub invariant-loop-cell : goal.invariant-loop-cell
invariant-loop-cell l = l.found.items ≡ flat_map cell_tokens (take l.cell-index l.cell-items)
