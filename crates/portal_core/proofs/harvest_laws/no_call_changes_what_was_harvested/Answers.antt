use Rattle.portal_core.proofs.CallHarvests.{call-left}
use Rattle.portal_core.proofs.harvest_laws.no_call_changes_what_was_harvested.Goals as goal

pub returns : goal.returns
returns c = call-left
