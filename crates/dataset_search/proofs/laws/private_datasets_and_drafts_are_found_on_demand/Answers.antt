use Rattle.dataset_search.proofs.LawLemmas.{found-draft, found-private}
use Rattle.dataset_search.proofs.laws.private_datasets_and_drafts_are_found_on_demand.Goals as goal

pub returns : goal.returns
returns c = record { private = found-private; drafts = found-draft }
