use Rattle.std.proofs.Common.{◌∙◌}
use Rattle.std.specs.Cmp.Lexicographic.{nat_list_cmp_total}
use Rattle.datastore_query.proofs.SearchLemmas.{found_where_any}
use Rattle.datastore_query.proofs.WordLemmas.{has_word-found}
use Rattle.datastore_query.proofs.words.has_word_in_order.Goals as goal

pub returns : goal.returns
returns c =
    c.is_ok.ensures.value
    ∙ found_where_any nat_list_cmp_total c.args.found.now c.args.word.now c.binary_search.result c.requires
    c.binary_search.ensures.bound c.binary_search.ensures.position
    ∙ has_word-found c.args.found.now c.args.word.now
