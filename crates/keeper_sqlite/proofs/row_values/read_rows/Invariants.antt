use Rattle.std.proofs.Common.{◌≡◌, map, take}
use Rattle.keeper_sqlite.specs.RowValues.{values_of}
use Rattle.keeper_sqlite.proofs.row_values.read_rows.Given as goal

abbrev pub invariant-loop-row : goal.invariant-loop-row
invariant-loop-row l = take l.row-index l.rows ≡ map values_of l.kept.items
