-- What is seen has a key that no entry names.
use Rattle.portal_core.proofs.Unseen.{unseen-hidden}
use Rattle.portal_core.proofs.laws.an_unseen_change_is_hidden.Goals as goal

pub returns : goal.returns
returns c = unseen-hidden
