use Rattle.packages.proofs.RestoreLemmas.{Contains-ascending, IsAscending-restored, ascending-Contains}
use Rattle.packages.proofs.laws.restored_datasets_ascend.Goals as goal

pub returns-clause-ascends : goal.returns-clause-ascends
returns-clause-ascends c = λ datasets unique. IsAscending-restored datasets unique

pub returns-clause-same : goal.returns-clause-same
returns-clause-same c =
    λ datasets dataset. (Contains-ascending datasets dataset, ascending-Contains datasets dataset)
