-- As for all changes that follow from its entries.
use Rattle.portal_state.proofs.AcceptedChanges.{accepted-effective}
use Rattle.portal_core.proofs.row_laws.effective_changes_follow_an_accepted_change.Goals as goal

pub returns : goal.returns
returns c = accepted-effective
