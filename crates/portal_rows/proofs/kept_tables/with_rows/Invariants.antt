use Rattle.std.proofs.Common.{map, take}
use Rattle.portal_rows.specs.KeptValues.{AreTablesOf, head_row}
use Rattle.portal_rows.proofs.kept_tables.with_rows.Given as goal

-- The tables so far have the rows so far.
abbrev pub invariant-loop-row : goal.invariant-loop-row
invariant-loop-row l = AreTablesOf l.filled.items (map head_row l.fn.tables) (take l.row-index l.rows)
