use Rattle.dataset_search.proofs.LawLemmas.{page-permuted}
use Rattle.dataset_search.proofs.laws.a_page_does_not_depend_on_how_datasets_stand.Goals as goal

pub returns : goal.returns
returns c = page-permuted
