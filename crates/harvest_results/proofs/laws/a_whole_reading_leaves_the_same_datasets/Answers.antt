use Rattle.harvest_results.proofs.ResultLemmas.{whole-same}
use Rattle.harvest_results.proofs.laws.a_whole_reading_leaves_the_same_datasets.Goals as goal

pub returns : goal.returns
returns c = whole-same
