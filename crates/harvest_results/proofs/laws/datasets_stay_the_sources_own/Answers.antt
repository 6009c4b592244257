use Rattle.harvest_results.proofs.ResultLemmas.{after-by_id, after-own}
use Rattle.harvest_results.proofs.laws.datasets_stay_the_sources_own.Goals as goal

pub returns : goal.returns
returns c = record { own = after-own; ascend = after-by_id }
