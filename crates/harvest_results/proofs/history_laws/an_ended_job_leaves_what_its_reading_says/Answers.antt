use Rattle.harvest_results.proofs.JobLemmas.{ended-leaves}
use Rattle.harvest_results.proofs.history_laws.an_ended_job_leaves_what_its_reading_says.Goals as goal

pub returns : goal.returns
returns c = ended-leaves
