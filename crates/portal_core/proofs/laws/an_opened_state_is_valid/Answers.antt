-- Each list in its order, and no dataset.
use Rattle.portal_state.proofs.Keeping.{opened_valid}
use Rattle.portal_core.proofs.laws.an_opened_state_is_valid.Goals as goal

pub returns : goal.returns
returns c = opened_valid
