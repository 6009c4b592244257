use Rattle.portal_rows.proofs.OrderLemmas.{memberships_in-own}
use Rattle.portal_rows.proofs.laws.memberships_are_those_of_their_organization.Goals as goal

pub returns : goal.returns
returns c = memberships_in-own
