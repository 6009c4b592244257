use Rattle.std.proofs.Common.{◌≡◌, map, take}
use Rattle.portal_rows.specs.OrgRows.{memberships_in, org_row}
use Rattle.portal_rows.proofs.orgs.org_rows.Given as goal

abbrev pub invariant-loop-org : goal.invariant-loop-org
invariant-loop-org l =
    l.rows.items ≡ map (λ org. org_row org (memberships_in org.name l.memberships)) (take l.org-index l.orgs)
