use Rattle.sorted_pages.proofs.SelectLemmas.{ascending-permutation}
use Rattle.sorted_pages.proofs.laws.rearranged_items_are_ordered_alike.Goals as goal

pub returns : goal.returns
returns g c = ascending-permutation
