use Rattle.std.proofs.Common.{◌≡◌, drop}
use Rattle.dataset_search.specs.Order.{search_cmp}
use Rattle.dataset_search.proofs.order.compare.Given as goal

abbrev pub invariant-loop-key : goal.invariant-loop-key
invariant-loop-key l = search_cmp l.keys l.one l.other ≡ search_cmp (drop l.key-index l.keys) l.one l.other
