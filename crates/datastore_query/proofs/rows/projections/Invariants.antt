use Rattle.std.proofs.Common.{◌≡◌, map, take}
use Rattle.datastore_query.specs.Column.{projected}
use Rattle.datastore_query.proofs.rows.projections.Given as goal

abbrev pub invariant-loop-row : goal.invariant-loop-row
invariant-loop-row l = l.cells.items ≡ map (projected l.columns) (take l.row-index l.rows)
