use Rattle.harvest_pool.proofs.FailureEndLemmas.{failures-told}
use Rattle.harvest_pool.proofs.laws.the_reports_of_a_whole_round_tell_its_failures.Goals as goal

pub returns : goal.returns
returns c = failures-told
