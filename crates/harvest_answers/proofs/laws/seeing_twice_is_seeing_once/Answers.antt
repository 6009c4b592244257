use Rattle.harvest_answers.proofs.ViewLemmas.{sources_seen_twice}
use Rattle.harvest_answers.proofs.laws.seeing_twice_is_seeing_once.Goals as goal

pub returns : goal.returns
returns c = sources_seen_twice
