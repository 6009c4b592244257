use Rattle.typed_csv.proofs.LawLemmas.{first-bad}
use Rattle.typed_csv.proofs.laws.the_cell_fault_is_that_of_the_first_bad_cell.Goals as goal

pub returns : goal.returns
returns c = first-bad
