use Rattle.std.proofs.Common.{◌≡◌, ◌++◌, take}
use Rattle.std.specs.List.{flat_map}
use Rattle.portal_state.specs.ChangedRows.{removals_unless}
use Rattle.portal_state.proofs.row_changes.datasets.push_each_gone.Given as goal

abbrev pub invariant-loop-table : goal.invariant-loop-table
invariant-loop-table l =
    l.changes.items ≡ l.fn.changes.items ++ flat_map (removals_unless l.resources) (take l.table-index l.tables)
