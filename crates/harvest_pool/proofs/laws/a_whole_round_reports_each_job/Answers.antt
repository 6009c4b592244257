use Rattle.harvest_pool.proofs.RoundLemmas.{whole-reports}
use Rattle.harvest_pool.proofs.laws.a_whole_round_reports_each_job.Goals as goal

pub returns : goal.returns
returns c = whole-reports
