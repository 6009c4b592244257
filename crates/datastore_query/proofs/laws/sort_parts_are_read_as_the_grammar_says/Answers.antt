use Rattle.datastore_query.proofs.GrammarLemmas.{sort_parts_by_grammar}
use Rattle.datastore_query.proofs.laws.sort_parts_are_read_as_the_grammar_says.Goals as goal

pub returns : goal.returns
returns c = sort_parts_by_grammar
