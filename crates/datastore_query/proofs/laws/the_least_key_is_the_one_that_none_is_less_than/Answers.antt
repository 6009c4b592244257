use Rattle.datastore_query.proofs.LeastLemmas.{least_where_none_is_less}
use Rattle.datastore_query.proofs.laws.the_least_key_is_the_one_that_none_is_less_than.Goals as goal

pub returns : goal.returns
returns c = least_where_none_is_less
