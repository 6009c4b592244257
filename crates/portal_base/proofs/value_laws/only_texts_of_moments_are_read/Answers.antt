use Rattle.portal_base.proofs.ReadingBack.{reading-only}
use Rattle.portal_base.proofs.value_laws.only_texts_of_moments_are_read.Goals as goal

pub returns : goal.returns
returns c = reading-only
