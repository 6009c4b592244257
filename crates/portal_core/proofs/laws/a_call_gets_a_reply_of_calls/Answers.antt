-- A reply shows something, tells of a change, or refuses.
use Rattle.portal_core.proofs.Replying.{reply-of_call}
use Rattle.portal_core.proofs.laws.a_call_gets_a_reply_of_calls.Goals as goal

pub returns : goal.returns
returns c = reply-of_call
