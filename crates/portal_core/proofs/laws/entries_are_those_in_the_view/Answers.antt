-- By what each change takes from the view.
use Rattle.portal_state.proofs.ChangeEntries.{entries-same}
use Rattle.portal_core.proofs.laws.entries_are_those_in_the_view.Goals as goal

pub returns : goal.returns
returns c = entries-same
