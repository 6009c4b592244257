-- What is kept of each list is the same before and after.
use Rattle.portal_core.proofs.Histories.{hidden-view}
use Rattle.portal_core.proofs.laws.a_hidden_event_leaves_the_view.Goals as goal

pub returns : goal.returns
returns c = hidden-view
