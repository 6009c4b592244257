-- By the kinds of answers.
use Rattle.portal_state.proofs.Settling.{refused-same}
use Rattle.portal_core.proofs.laws.a_refusal_changes_nothing.Goals as goal

pub returns : goal.returns
returns c = refused-same
