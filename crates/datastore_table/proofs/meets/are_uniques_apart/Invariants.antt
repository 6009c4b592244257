use Rattle.std.proofs.Common.{◌≡◌, drop}
use Rattle.datastore_table.specs.Meets.{uniques_apart}
use Rattle.datastore_table.proofs.meets.are_uniques_apart.Given as goal

abbrev pub invariant-loop-column : goal.invariant-loop-column
invariant-loop-column l = uniques_apart 0 l.fields l.rows ≡ uniques_apart l.column (drop l.column l.fields) l.rows
