use Rattle.dataset_answers.proofs.Fitting.{show_only, list_only, resource_show_only}
use Rattle.dataset_answers.proofs.laws.a_reading_accepts_nothing.Goals as goal

pub returns-clause-package_show : goal.returns-clause-package_show
returns-clause-package_show c = show_only (λ change. ⊥)

pub returns-clause-package_list : goal.returns-clause-package_list
returns-clause-package_list c = list_only (λ change. ⊥)

pub returns-clause-resource_show : goal.returns-clause-resource_show
returns-clause-resource_show c = resource_show_only (λ change. ⊥)
