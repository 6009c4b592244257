use Rattle.std.proofs.Common.{◌≡◌, map, take}
use Rattle.table_schema.specs.Printed.{cell_value}
use Rattle.portal_rows.proofs.tables.cells_json.Given as goal

abbrev pub invariant-loop-cell : goal.invariant-loop-cell
invariant-loop-cell l = l.values.items ≡ map cell_value (take l.cell-index l.cells)
