-- What is seen has a key that no entry names.
use Rattle.portal_core.proofs.Unseen.{unseen-step}
use Rattle.portal_core.proofs.laws.an_unseen_step_is_hidden.Goals as goal

pub returns : goal.returns
returns c = unseen-step
