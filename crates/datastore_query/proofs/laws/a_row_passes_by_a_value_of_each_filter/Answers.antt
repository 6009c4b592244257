use Rattle.datastore_query.proofs.PassingLemmas.{filters_by_values}
use Rattle.datastore_query.proofs.laws.a_row_passes_by_a_value_of_each_filter.Goals as goal

pub returns : goal.returns
returns c = filters_by_values
