use Rattle.portal_base.proofs.Upserted.{ascending-same}
use Rattle.packages.specs.Order.{dataset_cmp, dataset_cmp_total}
use Rattle.packages.proofs.RestoreLemmas.{valid-unique}
use Rattle.packages.proofs.laws.datasets_of_a_valid_state_are_restored_as_they_are.Goals as goal

pub returns-clause-unique : goal.returns-clause-unique
returns-clause-unique c = λ datasets up names ids. valid-unique datasets up names ids

pub returns-clause-same : goal.returns-clause-same
returns-clause-same c = λ datasets up. ascending-same dataset_cmp dataset_cmp_total datasets up
