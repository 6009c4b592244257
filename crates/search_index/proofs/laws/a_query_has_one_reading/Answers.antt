use Rattle.search_index.proofs.GrammarLemmas.{texts_by_grammar}
use Rattle.search_index.proofs.laws.a_query_has_one_reading.Goals as goal

pub returns : goal.returns
returns c = texts_by_grammar
