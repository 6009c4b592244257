use Rattle.std.proofs.Common.{◌≡◌, take}
use Rattle.dataset_search.proofs.page.lend_again.Given as goal

abbrev pub invariant-loop-dataset : goal.invariant-loop-dataset
invariant-loop-dataset l = l.lent.items ≡ take l.dataset-index l.datasets
