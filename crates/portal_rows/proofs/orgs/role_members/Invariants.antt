use Rattle.std.proofs.Common.{◌≡◌, map, take}
use Rattle.portal_rows.specs.OrgRows.{role_member}
use Rattle.portal_rows.proofs.orgs.role_members.Given as goal

abbrev pub invariant-loop-membership : goal.invariant-loop-membership
invariant-loop-membership l = l.members.items ≡ map role_member (take l.membership-index l.memberships)
