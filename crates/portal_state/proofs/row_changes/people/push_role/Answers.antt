use Rattle.std.proofs.Common.{◌≡◌, ◌++◌, ◌∙◌, List, OnOk, ap, sym, subst}
use Rattle.portal_keeper.specs.declared.change.Change.{Change}
use Rattle.portal_rows.specs.OrgRows.{memberships_in}
use Rattle.org_roles.specs.Order.{membership_cmp}
use Rattle.org_roles.specs.declared.entry.Membership.{Membership}
use Rattle.portal_base.specs.Ordered.{IsAscending, upserted}
use Rattle.portal_state.proofs.PeopleRows.{own_ascend, role_changes}
use Rattle.portal_state.proofs.row_changes.people.push_role.Goals as goal

pub with_role-requires : goal.with_role-requires
with_role-requires c =
    subst (IsAscending membership_cmp)
    (sym (c.memberships_in-own.ensures ∙ ap (memberships_in c.args.org.now) c.memberships.ensures))
    (own_ascend c.args.org.now c.args.people.now.people.roles c.requires)

pub returns : goal.returns
returns c =
    subst (λ (l : List Change). OnOk c.push_roles.result
    (c.push_roles.new.changes.items ≡ c.args.changes.now.items ++ l))
    (role_changes (record { org = c.args.org.now; user = c.args.user.now; role = c.args.role })
    c.args.people.now.people c.memberships_in-own.result.now c.as_slice.result.now c.requires
    (c.memberships_in-own.ensures ∙ ap (memberships_in c.args.org.now) c.memberships.ensures)
    (c.as_slice.ensures.value ∙ c.in_ok-roles.ensures
    ∙ ap (λ (m : Membership). upserted membership_cmp m c.memberships_in-own.result.now) c.in_ok-membership.ensures))
    c.push_roles.ensures
