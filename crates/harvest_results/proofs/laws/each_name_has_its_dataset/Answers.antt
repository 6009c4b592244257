use Rattle.harvest_results.proofs.LookupLemmas.{after-determined}
use Rattle.harvest_results.proofs.ResultLemmas.{find-after}
use Rattle.harvest_results.proofs.laws.each_name_has_its_dataset.Goals as goal

pub returns : goal.returns
returns c = record { only = after-determined; found = find-after }
