use Rattle.harvest_results.proofs.BalanceLemmas.{balance}
use Rattle.harvest_results.proofs.laws.added_and_deleted_make_up_the_change.Goals as goal

pub returns : goal.returns
returns c = balance
