use Rattle.portal_base.proofs.Unique.{IsIn-Contains, Contains-IsIn}
use Rattle.packages.specs.Tags.{text_set}
use Rattle.packages.proofs.TextSets.{IsAscending-text_set, IsIn-text_set, text_set-IsIn}
use Rattle.packages.proofs.laws.a_set_has_its_texts.Goals as goal

pub returns-clause-ascends : goal.returns-clause-ascends
returns-clause-ascends c = IsAscending-text_set

pub returns-clause-same : goal.returns-clause-same
returns-clause-same c = λ texts text. (
  λ found. Contains-IsIn text texts (text_set-IsIn text texts (IsIn-Contains text (text_set texts) found)),
  λ found. Contains-IsIn text (text_set texts) (IsIn-text_set text texts (IsIn-Contains text texts found)),
)
