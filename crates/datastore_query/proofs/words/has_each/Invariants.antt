use Rattle.std.proofs.Common.{◌≡◌, drop}
use Rattle.std.specs.List.{list_all}
use Rattle.datastore_query.specs.Words.{has_word, row_tokens}
use Rattle.datastore_query.proofs.words.has_each.Given as goal

abbrev pub invariant-loop-word : goal.invariant-loop-word
invariant-loop-word l =
    list_all (has_word (row_tokens l.row)) l.words
    ≡ list_all (has_word (row_tokens l.row)) (drop l.word-index l.words)
