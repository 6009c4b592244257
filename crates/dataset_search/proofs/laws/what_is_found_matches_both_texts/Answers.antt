use Rattle.dataset_search.proofs.LawLemmas.{found-means}
use Rattle.dataset_search.proofs.laws.what_is_found_matches_both_texts.Goals as goal

pub returns : goal.returns
returns c = found-means
