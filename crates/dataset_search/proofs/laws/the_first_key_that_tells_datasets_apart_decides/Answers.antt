use Rattle.dataset_search.proofs.KeyLemmas.{first-decides}
use Rattle.dataset_search.proofs.laws.the_first_key_that_tells_datasets_apart_decides.Goals as goal

pub returns : goal.returns
returns c = first-decides
