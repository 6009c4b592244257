-- By the kinds of answers.
use Rattle.portal_state.proofs.Settling.{used-accepted}
use Rattle.portal_core.proofs.laws.a_name_in_use_is_refused_last.Goals as goal

pub returns : goal.returns
returns c = used-accepted
