use Rattle.std.proofs.Common.{◌≡◌, take}
use Rattle.datastore_table.specs.Cells.{cells_at}
use Rattle.datastore_table.proofs.cells.copies_at.Given as goal

abbrev pub invariant-loop-column : goal.invariant-loop-column
invariant-loop-column l = l.copies.items ≡ cells_at (take l.column-index l.columns) l.cells
