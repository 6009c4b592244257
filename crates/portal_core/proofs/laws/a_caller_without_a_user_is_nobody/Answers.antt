-- The call is the same, by its caller as the portal knows it.
use Rattle.portal_state.proofs.Settling.{unknown-step}
use Rattle.portal_core.proofs.laws.a_caller_without_a_user_is_nobody.Goals as goal

pub returns : goal.returns
returns c = unknown-step
