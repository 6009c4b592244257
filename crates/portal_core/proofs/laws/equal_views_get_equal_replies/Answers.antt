-- Equal views are answered alike.
use Rattle.portal_core.proofs.Isolating.{replies_alike}
use Rattle.portal_core.proofs.laws.equal_views_get_equal_replies.Goals as goal

pub returns : goal.returns
returns c = replies_alike
