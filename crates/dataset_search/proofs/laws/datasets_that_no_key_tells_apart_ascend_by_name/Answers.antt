use Rattle.dataset_search.proofs.KeyLemmas.{tied-names}
use Rattle.dataset_search.proofs.laws.datasets_that_no_key_tells_apart_ascend_by_name.Goals as goal

pub returns : goal.returns
returns c = tied-names
