use Rattle.std.proofs.Common.{◌≡◌, take, option_copied}
use Rattle.datastore_query.specs.Filter.{least, unreadable_keys}
use Rattle.datastore_query.proofs.filter.least_unreadable.Given as goal

abbrev pub invariant-loop-entry : goal.invariant-loop-entry
invariant-loop-entry l = option_copied l.least ≡ least (unreadable_keys l.fields (take l.entry-index l.entries))
