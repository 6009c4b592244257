use Rattle.harvest_pool.proofs.RoundLemmas.{whole-leaves_none_open}
use Rattle.harvest_pool.proofs.laws.a_whole_round_leaves_no_open_job.Goals as goal

pub returns : goal.returns
returns c = whole-leaves_none_open
