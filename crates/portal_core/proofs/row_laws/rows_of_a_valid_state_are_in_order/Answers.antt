-- The lists of a valid state ascend, and keys are of one entry.
use Rattle.portal_state.proofs.InOrder.{kept_rows-in_order}
use Rattle.portal_core.proofs.row_laws.rows_of_a_valid_state_are_in_order.Goals as goal

pub returns : goal.returns
returns c = kept_rows-in_order
