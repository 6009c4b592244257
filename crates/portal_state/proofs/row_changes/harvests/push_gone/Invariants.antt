use Rattle.std.proofs.Common.{◌≡◌, ◌++◌, map, take}
use Rattle.portal_state.specs.ChangedRows.{removal_at_id}
use Rattle.portal_state.proofs.row_changes.harvests.push_gone.Given as goal

abbrev pub invariant-loop-id : goal.invariant-loop-id
invariant-loop-id l = l.changes.items ≡ l.fn.changes.items ++ map removal_at_id (take l.id-index l.ids)
