use Rattle.harvest_rows.proofs.JobLemmas.{one_job}
use Rattle.harvest_rows.proofs.laws.a_row_is_of_one_job.Goals as goal

pub returns : goal.returns
returns c = one_job
