use Rattle.dataset_search.proofs.KeyLemmas.{deciding-decide}
use Rattle.dataset_search.proofs.laws.a_field_named_again_decides_nothing.Goals as goal

pub returns : goal.returns
returns c = deciding-decide
