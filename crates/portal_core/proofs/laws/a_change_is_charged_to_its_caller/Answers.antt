-- By what is found in the list of quotas.
use Rattle.portal_core.proofs.Charging.{own-accepted, others-same}
use Rattle.portal_core.proofs.laws.a_change_is_charged_to_its_caller.Goals as goal

pub returns-clause-own : goal.returns-clause-own
returns-clause-own c = own-accepted

pub returns-clause-others : goal.returns-clause-others
returns-clause-others c = others-same
