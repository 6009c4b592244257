-- The view, too, is a state that takes the change.
use Rattle.portal_state.proofs.ChangeEntries.{entries-in_view}
use Rattle.portal_core.proofs.laws.entries_make_the_change_in_the_view.Goals as goal

pub returns : goal.returns
returns c = entries-in_view
