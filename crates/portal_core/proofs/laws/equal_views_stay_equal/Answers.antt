-- What is accepted leaves equal views.
use Rattle.portal_core.proofs.Isolating.{views_alike}
use Rattle.portal_core.proofs.laws.equal_views_stay_equal.Goals as goal

pub returns : goal.returns
returns c = views_alike
