use Rattle.std.proofs.Common.{◌≡◌, take}
use Rattle.datastore_query.proofs.ordered_filter.with_values_in_order.Given as goal

abbrev pub invariant-loop-filter : goal.invariant-loop-filter
invariant-loop-filter l = l.ordered.items ≡ take l.filter-index l.filters
