use Rattle.std.proofs.Common.{◌≡◌, take}
use Rattle.datastore_query.specs.Query.{filtered_ids}
use Rattle.datastore_query.proofs.query.Query.ids.Given as goal

abbrev pub invariant-loop-row : goal.invariant-loop-row
invariant-loop-row l = l.ids.items ≡ filtered_ids l.self (take l.row-index l.row-items)
