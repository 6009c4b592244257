-- By the actions.
use Rattle.portal_core.proofs.Reading.{reading-same}
use Rattle.portal_core.proofs.laws.a_reading_changes_nothing.Goals as goal

pub returns : goal.returns
returns c = reading-same
