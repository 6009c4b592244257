use Rattle.std.proofs.Common.{◌≡◌, ◌++◌, ◌∙◌, List, OnOk, ap, subst}
use Rattle.portal_keeper.specs.declared.change.Change.{Change}
use Rattle.portal_rows.specs.OrgRows.{memberships_in}
use Rattle.portal_state.specs.ChangedRows.{org_body_with}
use Rattle.portal_state.proofs.PeopleRows.{put_changes}
use Rattle.portal_state.proofs.row_changes.people.push_org.Goals as goal

pub returns : goal.returns
returns c =
    subst (λ (l : List Change). OnOk c.push_between.result
    (c.push_between.new.changes.items ≡ c.args.changes.now.items ++ l))
    (put_changes c.args.org.now c.args.people.now.people c.memberships_in-roles.result.now c.in_ok-before.before
    c.in_ok-kind.field-0
    (c.memberships_in-roles.ensures ∙ ap (memberships_in c.args.org.now.name) c.memberships.ensures)
    (c.in_ok-before.ensures ∙ ap (org_body_with c.memberships_in-roles.result.now) c.org.ensures)
    c.in_ok-kind.ensures)
    c.push_between.ensures
