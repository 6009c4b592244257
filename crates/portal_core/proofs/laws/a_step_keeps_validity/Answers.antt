-- What is accepted is fit to be made.
use Rattle.portal_state.proofs.Settling.{step-valid}
use Rattle.portal_core.proofs.laws.a_step_keeps_validity.Goals as goal

pub returns : goal.returns
returns c = step-valid
