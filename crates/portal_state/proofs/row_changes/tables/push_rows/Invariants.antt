use Rattle.std.proofs.Common.{◌≡◌, ◌++◌, take}
use Rattle.std.specs.List.{flat_map}
use Rattle.portal_state.specs.ChangedRows.{changes_of_row}
use Rattle.portal_state.proofs.row_changes.tables.push_rows.Given as goal

abbrev pub invariant-loop-row : goal.invariant-loop-row
invariant-loop-row l =
    l.changes.items ≡ l.fn.changes.items ++ flat_map (changes_of_row l.resource l.old) (take l.row-index l.rows)
