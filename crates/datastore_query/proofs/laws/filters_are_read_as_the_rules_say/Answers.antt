use Rattle.datastore_query.specs.Filter.{entries_of}
use Rattle.datastore_query.proofs.FilterLemmas.{filters_by_rules}
use Rattle.datastore_query.proofs.laws.filters_are_read_as_the_rules_say.Goals as goal

pub returns : goal.returns
returns c = λ fields filters read. filters_by_rules fields (entries_of filters) read
