-- By induction over the events.
use Rattle.std.proofs.Common.{refl}
use Rattle.portal_core.proofs.Histories.{exchanges-alike}
use Rattle.portal_core.proofs.laws.hidden_events_change_no_reply.Goals as goal

pub returns : goal.returns
returns c = λ caller state events valid. exchanges-alike caller state state events valid valid refl
