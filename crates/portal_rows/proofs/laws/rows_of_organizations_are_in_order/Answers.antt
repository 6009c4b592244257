use Rattle.portal_rows.proofs.OrderLemmas.{org_rows-in_order}
use Rattle.portal_rows.proofs.laws.rows_of_organizations_are_in_order.Goals as goal

pub returns : goal.returns
returns c = org_rows-in_order
