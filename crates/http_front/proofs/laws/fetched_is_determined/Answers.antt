use Rattle.http_front.proofs.LawLemmas.{fetched_determined}
use Rattle.http_front.proofs.laws.fetched_is_determined.Goals as goal

pub returns : goal.returns
returns c = fetched_determined
