use Rattle.harvest_pool.proofs.AfterLemmas.{left, reports-are}
use Rattle.harvest_pool.proofs.laws.a_whole_round_does_what_the_documents_say.Goals as goal

pub returns : goal.returns
returns c = record { left = left; reported = reports-are }
