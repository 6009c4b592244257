-- The values of each list are right, and the same rows in order are the same list.
use Rattle.portal_core.proofs.Values.{values-rows}
use Rattle.portal_core.proofs.row_laws.a_state_has_values.Goals as goal

pub returns : goal.returns
returns c = values-rows
