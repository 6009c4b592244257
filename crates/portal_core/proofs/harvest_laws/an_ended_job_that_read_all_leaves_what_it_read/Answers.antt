use Rattle.portal_core.proofs.HarvestRuns.{whole-so}
use Rattle.portal_core.proofs.harvest_laws.an_ended_job_that_read_all_leaves_what_it_read.Goals as goal

pub returns : goal.returns
returns c = whole-so
