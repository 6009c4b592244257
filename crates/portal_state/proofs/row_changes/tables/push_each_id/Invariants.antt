use Rattle.std.proofs.Common.{◌≡◌, ◌++◌, take}
use Rattle.std.specs.List.{flat_map}
use Rattle.portal_state.specs.ChangedRows.{removals_of_id}
use Rattle.portal_state.proofs.row_changes.tables.push_each_id.Given as goal

abbrev pub invariant-loop-id : goal.invariant-loop-id
invariant-loop-id l =
    l.changes.items ≡ l.fn.changes.items ++ flat_map (removals_of_id l.resource l.rows) (take l.id-index l.ids)
