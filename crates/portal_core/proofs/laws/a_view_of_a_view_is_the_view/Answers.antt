-- The view of a view is the view.
use Rattle.portal_core.proofs.Viewing.{view_of-twice}
use Rattle.portal_core.proofs.laws.a_view_of_a_view_is_the_view.Goals as goal

pub returns : goal.returns
returns c = view_of-twice
