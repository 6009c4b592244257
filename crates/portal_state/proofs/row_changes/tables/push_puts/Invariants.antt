use Rattle.std.proofs.Common.{◌≡◌, ◌++◌, map, take}
use Rattle.portal_rows.specs.TableRows.{cells_row}
use Rattle.portal_state.specs.ChangedRows.{put_of}
use Rattle.portal_state.proofs.row_changes.tables.push_puts.Given as goal

abbrev pub invariant-loop-row : goal.invariant-loop-row
invariant-loop-row l =
    l.changes.items ≡ l.fn.changes.items ++ map put_of (map (cells_row l.resource) (take l.row-index l.rows))
