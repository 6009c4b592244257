use Rattle.std.proofs.Common.{◌≡◌, take}
use Rattle.datastore_query.specs.Column.{projected}
use Rattle.datastore_query.proofs.column.projected.Given as goal

abbrev pub invariant-loop-column : goal.invariant-loop-column
invariant-loop-column l = l.cells.items ≡ projected (take l.column-index l.columns) l.row
