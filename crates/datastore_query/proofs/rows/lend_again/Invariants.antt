use Rattle.std.proofs.Common.{◌≡◌, take}
use Rattle.datastore_query.proofs.rows.lend_again.Given as goal

abbrev pub invariant-loop-row : goal.invariant-loop-row
invariant-loop-row l = l.lent.items ≡ take l.row-index l.rows
