use Rattle.harvest_pool.proofs.BoundLemmas.{whole-few}
use Rattle.harvest_pool.proofs.laws.a_whole_round_makes_few_steps.Goals as goal

pub returns : goal.returns
returns c = whole-few
