-- By induction over the events.
use Rattle.std.proofs.Common.{refl}
use Rattle.portal_core.proofs.Histories.{ends-alike}
use Rattle.portal_core.proofs.laws.hidden_events_leave_the_last_view.Goals as goal

pub returns : goal.returns
returns c = λ caller state events valid. ends-alike caller state state events valid valid refl
