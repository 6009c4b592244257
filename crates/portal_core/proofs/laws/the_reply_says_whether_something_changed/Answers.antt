-- By the kinds of answers.
use Rattle.portal_state.proofs.Settling.{accepted-change}
use Rattle.portal_core.proofs.laws.the_reply_says_whether_something_changed.Goals as goal

pub returns : goal.returns
returns c = accepted-change
