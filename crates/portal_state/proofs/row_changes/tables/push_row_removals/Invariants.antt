use Rattle.std.proofs.Common.{◌≡◌, ◌++◌, map, take}
use Rattle.portal_state.specs.ChangedRows.{removal_of_row}
use Rattle.portal_state.proofs.row_changes.tables.push_row_removals.Given as goal

abbrev pub invariant-loop-row : goal.invariant-loop-row
invariant-loop-row l =
    l.changes.items ≡ l.fn.changes.items ++ map (removal_of_row l.resource) (take l.row-index l.rows)
