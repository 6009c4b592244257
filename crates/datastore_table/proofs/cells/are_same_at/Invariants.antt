use Rattle.std.proofs.Common.{◌≡◌, drop}
use Rattle.datastore_table.specs.Cells.{cells_at, same_cells}
use Rattle.datastore_table.proofs.cells.are_same_at.Given as goal

abbrev pub invariant-loop-at : goal.invariant-loop-at
invariant-loop-at l =
    same_cells (cells_at l.columns l.cells) l.others
    ≡ same_cells (cells_at (drop l.at l.columns) l.cells) (drop l.at l.others)
