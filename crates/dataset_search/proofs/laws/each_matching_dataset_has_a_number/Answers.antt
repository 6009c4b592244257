use Rattle.dataset_search.proofs.LawLemmas.{matching-count}
use Rattle.dataset_search.proofs.laws.each_matching_dataset_has_a_number.Goals as goal

pub returns : goal.returns
returns c = matching-count
