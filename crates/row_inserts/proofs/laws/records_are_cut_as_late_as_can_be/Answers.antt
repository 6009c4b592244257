use Rattle.row_inserts.proofs.CutLemmas.{cut_alone}
use Rattle.row_inserts.proofs.laws.records_are_cut_as_late_as_can_be.Goals as goal

pub returns : goal.returns
returns c = cut_alone
