use Rattle.std.proofs.Common.{◌≡◌, drop}
use Rattle.datastore_table.specs.Cells.{cells_at, same_cells}
use Rattle.datastore_table.proofs.cells.are_same_between.Given as goal

abbrev pub invariant-loop-at : goal.invariant-loop-at
invariant-loop-at l =
    same_cells (cells_at l.columns l.cells) (cells_at l.elsewhere l.others)
    ≡ same_cells (cells_at (drop l.at l.columns) l.cells) (cells_at (drop l.at l.elsewhere) l.others)
