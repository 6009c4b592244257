use Rattle.std.proofs.Common.{◌≡◌, ◌++◌, map, take}
use Rattle.portal_state.specs.ChangedRows.{removal_of_org}
use Rattle.portal_state.proofs.row_changes.people.push_removals.Given as goal

abbrev pub invariant-loop-role : goal.invariant-loop-role
invariant-loop-role l =
    l.changes.items ≡ l.fn.changes.items ++ map (λ role. removal_of_org role.org) (take l.role-index l.roles)
