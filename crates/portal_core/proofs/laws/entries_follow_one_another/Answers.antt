-- By induction over the first list.
use Rattle.portal_state.proofs.StateLemmas.{state_after-++}
use Rattle.portal_core.proofs.laws.entries_follow_one_another.Goals as goal

pub returns : goal.returns
returns c = state_after-++
