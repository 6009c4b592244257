use Rattle.harvest_results.proofs.ResultLemmas.{after-listed}
use Rattle.harvest_results.proofs.laws.an_unlisted_iri_leaves_no_dataset.Goals as goal

pub returns : goal.returns
returns c = after-listed
