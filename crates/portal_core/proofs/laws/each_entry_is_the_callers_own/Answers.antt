-- By what each planned change asks of its caller.
use Rattle.portal_core.proofs.Owning.{accepted-own}
use Rattle.portal_core.proofs.laws.each_entry_is_the_callers_own.Goals as goal

pub returns : goal.returns
returns c = accepted-own
