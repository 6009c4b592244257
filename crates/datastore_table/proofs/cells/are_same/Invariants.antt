use Rattle.std.proofs.Common.{◌≡◌, drop}
use Rattle.datastore_table.specs.Cells.{same_cells}
use Rattle.datastore_table.proofs.cells.are_same.Given as goal

abbrev pub invariant-loop-at : goal.invariant-loop-at
invariant-loop-at l = same_cells l.cells l.others ≡ same_cells (drop l.at l.cells) (drop l.at l.others)
