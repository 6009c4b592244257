use Rattle.harvest_rows.proofs.KeptLemmas.{rows_of_harvests-in_order}
use Rattle.harvest_rows.proofs.laws.rows_of_harvests_are_in_order.Goals as goal

pub returns : goal.returns
returns c = rows_of_harvests-in_order
