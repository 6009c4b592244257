use Rattle.std.proofs.Common.{◌≡◌, take, map}
use Rattle.table_schema.specs.Printed.{cell_value}
use Rattle.table_schema.proofs.to_json.cells_json.Given as goal

abbrev pub invariant-loop-cell : goal.invariant-loop-cell
invariant-loop-cell l = l.list.items ≡ map cell_value (take l.cell-index l.cells)
