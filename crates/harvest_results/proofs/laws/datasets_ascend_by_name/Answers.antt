use Rattle.harvest_results.proofs.ResultLemmas.{after-ascending}
use Rattle.harvest_results.proofs.laws.datasets_ascend_by_name.Goals as goal

pub returns : goal.returns
returns c = after-ascending
