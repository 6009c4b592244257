-- The rows are in order, and they are the listed ones.
use Rattle.portal_state.proofs.InOrder.{found-listed}
use Rattle.portal_core.proofs.row_laws.each_row_of_a_valid_state_is_found.Goals as goal

pub returns : goal.returns
returns c = found-listed
