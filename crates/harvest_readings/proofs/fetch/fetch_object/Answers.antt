use Rattle.harvest_readings.proofs.FailureLemmas.{read_object-not_failed}
use Rattle.harvest_readings.proofs.fetch.fetch_object.Goals as goal

pub returns-in-Ok-clause-fault : goal.returns-in-Ok-clause-fault
returns-in-Ok-clause-fault g c = λ e.
    absurd (read_object-not_failed c.read_object.result _ _ c.read_object.ensures e)
