-- The entries are those in the state, and make the change there.
use Rattle.portal_state.proofs.ChangeEntries.{entries-in_state}
use Rattle.portal_core.proofs.laws.entries_make_the_change.Goals as goal

pub returns : goal.returns
returns c = entries-in_state
