use Rattle.harvest_results.proofs.EqualityLemmas.{Decides-dataset}
use Rattle.harvest_results.proofs.laws.datasets_are_equal_exactly_where_their_fields_are.Goals as goal

pub returns : goal.returns
returns c = Decides-dataset
