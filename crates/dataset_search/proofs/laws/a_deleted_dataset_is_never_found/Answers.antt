use Rattle.dataset_search.proofs.LawLemmas.{found-not_deleted}
use Rattle.dataset_search.proofs.laws.a_deleted_dataset_is_never_found.Goals as goal

pub returns : goal.returns
returns c = found-not_deleted
