use Rattle.portal_core.proofs.HarvestRuns.{broken-begun, ended-begun}
use Rattle.portal_core.proofs.harvest_laws.a_job_that_ends_has_begun.Goals as goal

pub returns : goal.returns
returns c = record { ended = ended-begun; broken = broken-begun }
