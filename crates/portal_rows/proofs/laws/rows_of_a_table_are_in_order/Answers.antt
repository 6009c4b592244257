use Rattle.portal_rows.proofs.OrderLemmas.{rows_of_table-in_order}
use Rattle.portal_rows.proofs.laws.rows_of_a_table_are_in_order.Goals as goal

pub returns : goal.returns
returns c = rows_of_table-in_order
