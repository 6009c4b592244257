use Rattle.harvest_readings.proofs.FailureLemmas.{read_catalogue-not_failed}
use Rattle.harvest_readings.proofs.fetch.fetch_catalogue.Goals as goal

pub returns-in-Ok-clause-fault : goal.returns-in-Ok-clause-fault
returns-in-Ok-clause-fault g c = λ e.
    absurd (read_catalogue-not_failed c.read_catalogue.result _ c.read_catalogue.ensures e)
