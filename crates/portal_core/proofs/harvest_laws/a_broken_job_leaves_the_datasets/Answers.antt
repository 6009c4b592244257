use Rattle.portal_core.proofs.HarvestRuns.{broken-so}
use Rattle.portal_core.proofs.harvest_laws.a_broken_job_leaves_the_datasets.Goals as goal

pub returns : goal.returns
returns c = λ state events source id cause valid begin. broken-so state events source id valid begin cause
