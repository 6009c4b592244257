use Rattle.std.proofs.Common.{◌≡◌, drop, flat_map}
use Rattle.datastore_query.specs.Words.{cell_tokens, has_word, row_tokens}
use Rattle.datastore_query.proofs.words.row_has.Given as goal

abbrev pub invariant-loop-cell : goal.invariant-loop-cell
invariant-loop-cell l =
    has_word (row_tokens l.row) l.token ≡ has_word (flat_map cell_tokens (drop l.cell-index l.row.cells)) l.token
