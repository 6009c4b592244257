-- By induction over the events.
use Rattle.portal_state.proofs.Settling.{replay-valid}
use Rattle.portal_core.proofs.laws.a_replay_keeps_validity.Goals as goal

pub returns : goal.returns
returns c = replay-valid
