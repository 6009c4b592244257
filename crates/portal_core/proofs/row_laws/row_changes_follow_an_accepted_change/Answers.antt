-- The entries make the change, and the changed state is valid too.
use Rattle.portal_state.proofs.AcceptedChanges.{accepted-changes}
use Rattle.portal_core.proofs.row_laws.row_changes_follow_an_accepted_change.Goals as goal

pub returns : goal.returns
returns c = accepted-changes
