use Rattle.harvest_results.proofs.CountLemmas.{added-again, deleted-again, updated-again}
use Rattle.harvest_results.proofs.ResultLemmas.{after-again}
use Rattle.harvest_results.proofs.laws.the_same_reading_again_changes_nothing.Goals as goal

pub returns : goal.returns
returns c = record {
  added = added-again;
  updated = updated-again;
  deleted = deleted-again;
  datasets = after-again;
}
