use Rattle.harvest_rows.proofs.KeptLemmas.{same_harvests}
use Rattle.harvest_rows.proofs.laws.harvest_rows_are_of_one_value.Goals as goal

pub returns : goal.returns
returns c = same_harvests
