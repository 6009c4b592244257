use Rattle.harvest_stages.proofs.RestLemmas.{all_rest, sources_rest}
use Rattle.harvest_stages.proofs.laws.sources_come_to_rest.Goals as goal

pub returns-clause-sound : goal.returns-clause-sound
returns-clause-sound c = sources_rest

pub returns-clause-rest : goal.returns-clause-rest
returns-clause-rest c = all_rest
