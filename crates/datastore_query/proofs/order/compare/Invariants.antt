use Rattle.std.proofs.Common.{◌≡◌, drop}
use Rattle.datastore_query.specs.Sort.{sorts_cmp}
use Rattle.datastore_query.proofs.order.compare.Given as goal

abbrev pub invariant-loop-sort : goal.invariant-loop-sort
invariant-loop-sort l = sorts_cmp l.sorts l.one l.other ≡ sorts_cmp (drop l.sort-index l.sorts) l.one l.other
