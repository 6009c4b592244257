use Rattle.std.proofs.Common.{◌≡◌, take}
use Rattle.portal_state.proofs.row_changes.people.copied.Given as goal

abbrev pub invariant-loop-role : goal.invariant-loop-role
invariant-loop-role l = l.copy.items ≡ take l.role-index l.roles
