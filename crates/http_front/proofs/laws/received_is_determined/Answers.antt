use Rattle.http_front.proofs.LawLemmas.{received_determined}
use Rattle.http_front.proofs.laws.received_is_determined.Goals as goal

pub returns : goal.returns
returns c = received_determined
