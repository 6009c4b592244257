use Rattle.datastore_answers.proofs.FitLemmas.{info_only}
use Rattle.datastore_answers.proofs.laws.a_reading_accepts_nothing.Goals as goal

pub returns : goal.returns
returns c = info_only (λ change. ⊥)
