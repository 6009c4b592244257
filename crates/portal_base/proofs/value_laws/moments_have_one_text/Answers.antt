use Rattle.portal_base.proofs.CivilLemmas.{IsMomentText-unique}
use Rattle.portal_base.proofs.value_laws.moments_have_one_text.Goals as goal

pub returns : goal.returns
returns c = IsMomentText-unique
