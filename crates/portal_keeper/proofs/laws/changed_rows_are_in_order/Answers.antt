use Rattle.portal_keeper.proofs.RowLemmas.{in_order-rows_after}
use Rattle.portal_keeper.proofs.laws.changed_rows_are_in_order.Goals as goal

pub returns : goal.returns
returns c = in_order-rows_after
