use Rattle.harvest_results.proofs.JobLemmas.{whole-leaves}
use Rattle.harvest_results.proofs.history_laws.an_ended_job_that_read_all_leaves_what_it_read.Goals as goal

pub returns : goal.returns
returns c = whole-leaves
