-- By what the answer is.
use Rattle.portal_state.proofs.Settling.{unused-applied}
use Rattle.portal_core.proofs.laws.a_change_that_claims_nothing_in_use_is_made.Goals as goal

pub returns : goal.returns
returns c = unused-applied
