use Rattle.std.proofs.Common.{◌≡◌, filter, take}
use Rattle.datastore_query.specs.Query.{is_selected}
use Rattle.datastore_query.proofs.rows.select.Given as goal

abbrev pub invariant-loop-row : goal.invariant-loop-row
invariant-loop-row l = l.selected.items ≡ filter (is_selected l.filters l.words) (take l.row-index l.rows)
