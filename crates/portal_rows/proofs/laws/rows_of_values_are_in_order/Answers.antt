use Rattle.portal_rows.proofs.KeptOrder.{rows_of_values-in_order}
use Rattle.portal_rows.proofs.laws.rows_of_values_are_in_order.Goals as goal

pub returns : goal.returns
returns c = rows_of_values-in_order
