use Rattle.harvest_readings.proofs.FailureLemmas.{failed-catalogue, failed-object}
use Rattle.harvest_readings.proofs.laws.a_failed_fetch_shows_in_what_was_read.Goals as goal

pub returns-clause-catalogue : goal.returns-clause-catalogue
returns-clause-catalogue c = failed-catalogue

pub returns-clause-object : goal.returns-clause-object
returns-clause-object c = failed-object
