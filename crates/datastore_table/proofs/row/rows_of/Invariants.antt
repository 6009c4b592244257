use Rattle.std.proofs.Common.{◌≡◌, ◌++◌}
use Rattle.datastore_table.specs.Meets.{rows_of}
use Rattle.datastore_table.proofs.row.rows_of.Given as goal

abbrev pub invariant-loop-pair : goal.invariant-loop-pair
invariant-loop-pair l = rows_of l.fn.pairs ≡ l.rows.items ++ rows_of l.pair-iterator.rest.items
