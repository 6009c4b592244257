use Rattle.portal_rows.proofs.SameLemmas.{same_values}
use Rattle.portal_rows.proofs.laws.rows_are_of_one_value.Goals as goal

pub returns : goal.returns
returns c = same_values
