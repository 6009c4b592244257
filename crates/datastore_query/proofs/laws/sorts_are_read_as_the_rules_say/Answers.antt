use Rattle.datastore_query.proofs.SortReadingLemmas.{sort_by_grammar}
use Rattle.datastore_query.proofs.laws.sorts_are_read_as_the_rules_say.Goals as goal

pub returns : goal.returns
returns c = sort_by_grammar
