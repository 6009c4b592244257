use Rattle.harvest_answers.proofs.Fitting.{action_fit}
use Rattle.harvest_answers.proofs.laws.what_is_accepted_is_fit.Goals as goal

pub returns : goal.returns
returns c = action_fit
