use Rattle.portal_core.proofs.HarvestRuns.{ended-so}
use Rattle.portal_core.proofs.harvest_laws.an_ended_job_leaves_what_its_reading_says.Goals as goal

pub returns : goal.returns
returns c = ended-so
