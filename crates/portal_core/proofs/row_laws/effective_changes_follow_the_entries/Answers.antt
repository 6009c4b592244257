-- All changes at one key say the same, so that either all of them change something or none.
use Rattle.portal_state.proofs.EffectiveChanges.{rows_after-effective}
use Rattle.portal_core.proofs.row_laws.effective_changes_follow_the_entries.Goals as goal

pub returns : goal.returns
returns c = rows_after-effective
