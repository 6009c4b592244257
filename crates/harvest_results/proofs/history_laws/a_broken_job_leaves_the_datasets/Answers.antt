use Rattle.harvest_results.proofs.JobLemmas.{broken-leaves}
use Rattle.harvest_results.proofs.history_laws.a_broken_job_leaves_the_datasets.Goals as goal

pub returns : goal.returns
returns c = broken-leaves
