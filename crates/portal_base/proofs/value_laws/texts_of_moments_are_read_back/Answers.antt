use Rattle.portal_base.proofs.ReadingBack.{reading-moment_text}
use Rattle.portal_base.proofs.value_laws.texts_of_moments_are_read_back.Goals as goal

pub returns : goal.returns
returns c = reading-moment_text
