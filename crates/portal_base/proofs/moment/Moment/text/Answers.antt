use Rattle.std.proofs.Common.{◌∙◌}
use Rattle.portal_base.proofs.MomentTextLemmas.{IsMomentText-moment_text}
use Rattle.portal_base.proofs.ReadingBack.{reading-back}
use Rattle.portal_base.proofs.moment.Moment.text.Goals as goal

pub returns-clause-text : goal.returns-clause-text
returns-clause-text c = IsMomentText-moment_text _ _ c.civil_of-civil.ensures.within (
  c.civil_of-civil.result,
  c.civil_of-civil.ensures.second,
  c.civil_of-civil.ensures.no_fraction,
  c.from.ensures
      ∙ c.in_ok-string.ensures.ok,
)

pub returns-clause-civil : goal.returns-clause-civil
returns-clause-civil c = (
  c.civil_of-civil.result,
  c.civil_of-civil.ensures.second,
  c.civil_of-civil.ensures.no_fraction,
  c.from.ensures
      ∙ c.in_ok-string.ensures.ok,
)

pub returns-clause-back : goal.returns-clause-back
returns-clause-back c = reading-back _ _ c.civil_of-civil.ensures.within (
  c.civil_of-civil.result,
  c.civil_of-civil.ensures.second,
  c.civil_of-civil.ensures.no_fraction,
  c.from.ensures
      ∙ c.in_ok-string.ensures.ok,
)
