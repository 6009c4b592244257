use Rattle.std.proofs.Common.{◌≡◌, ◌++◌, map, take}
use Rattle.portal_rows.specs.TableRows.{cells_row}
use Rattle.portal_rows.proofs.tables.push_cells_rows.Given as goal

abbrev pub invariant-loop-row : goal.invariant-loop-row
invariant-loop-row l = l.kept.items ≡ l.initial.kept.items ++ map (cells_row l.resource) (take l.row-index l.rows)
