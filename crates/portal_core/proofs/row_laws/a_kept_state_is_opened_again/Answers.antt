use Rattle.portal_core.proofs.OneState.{opened_again}
use Rattle.portal_core.proofs.row_laws.a_kept_state_is_opened_again.Goals as goal

pub returns : goal.returns
returns c = opened_again
