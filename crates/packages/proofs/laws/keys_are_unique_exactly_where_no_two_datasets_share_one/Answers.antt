use Rattle.packages.proofs.RestoreLemmas.{ShareNoKey-unique, unique-ShareNoKey}
use Rattle.packages.proofs.laws.keys_are_unique_exactly_where_no_two_datasets_share_one.Goals as goal

pub returns : goal.returns
returns c = λ datasets. (unique-ShareNoKey datasets, ShareNoKey-unique datasets)
