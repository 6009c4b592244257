use Rattle.std.proofs.Common.{◌≡◌, take}
use Rattle.datastore_query.specs.Filter.{filters_in}
use Rattle.datastore_query.proofs.filter.filters_in.Given as goal

abbrev pub invariant-loop-entry : goal.invariant-loop-entry
invariant-loop-entry l = l.filters.items ≡ filters_in l.fields (take l.entry-index l.entries)
