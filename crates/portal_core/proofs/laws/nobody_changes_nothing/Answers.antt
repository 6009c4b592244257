-- Nobody has the right to a change.
use Rattle.portal_core.proofs.Nobody.{nobody-unchanging}
use Rattle.portal_core.proofs.laws.nobody_changes_nothing.Goals as goal

pub returns : goal.returns
returns c = nobody-unchanging
