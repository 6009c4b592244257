use Rattle.std.proofs.Common.{◌≡◌, drop}
use Rattle.datastore_table.specs.Meets.{are_accepted}
use Rattle.datastore_table.proofs.meets.are_accepted.Given as goal

abbrev pub invariant-loop-column : goal.invariant-loop-column
invariant-loop-column l = are_accepted l.fields l.cells ≡ are_accepted (drop l.column l.fields) (drop l.column l.cells)
