-- Each change says what the rows after have.
use Rattle.portal_state.proofs.EffectiveChanges.{none-effective}
use Rattle.portal_core.proofs.row_laws.no_change_is_effective_where_no_row_changes.Goals as goal

pub returns : goal.returns
returns c = none-effective
