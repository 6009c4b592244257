use Rattle.dataset_rows.proofs.RowLemmas.{one_dataset}
use Rattle.dataset_rows.proofs.laws.a_row_is_of_one_dataset.Goals as goal

pub returns : goal.returns
returns c = one_dataset
