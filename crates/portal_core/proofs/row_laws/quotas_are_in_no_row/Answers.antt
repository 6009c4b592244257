-- A charge changes the quotas alone.
use Rattle.portal_state.proofs.AcceptedChanges.{applied-rows}
use Rattle.portal_core.proofs.row_laws.quotas_are_in_no_row.Goals as goal

pub returns : goal.returns
returns c = applied-rows
