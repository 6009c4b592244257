use Rattle.harvest_stages.proofs.RestoringLaws.{restored_again}
use Rattle.harvest_stages.proofs.laws.sources_at_rest_are_restored.Goals as goal

pub returns : goal.returns
returns c = restored_again
