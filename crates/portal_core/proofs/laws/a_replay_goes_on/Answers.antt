-- By induction over the events.
use Rattle.portal_state.proofs.Settling.{replay-append}
use Rattle.portal_core.proofs.laws.a_replay_goes_on.Goals as goal

pub returns : goal.returns
returns c = replay-append
