use Rattle.std.proofs.Common.{◌≡◌, ◌++◌, ◌∙◌, List, OnOk, ap, subst}
use Rattle.portal_keeper.specs.declared.change.Change.{Change}
use Rattle.portal_rows.specs.OrgRows.{memberships_in}
use Rattle.portal_state.proofs.PeopleRows.{loss_changes}
use Rattle.portal_state.proofs.row_changes.people.push_loss.Goals as goal

pub returns : goal.returns
returns c =
    subst (λ (l : List Change). OnOk c.push_roles.result
    (c.push_roles.new.changes.items ≡ c.args.changes.now.items ++ l))
    (loss_changes c.args.org.now c.args.user.now c.args.people.now.people c.memberships_in-own.result.now
    c.as_slice.result.now
    (c.memberships_in-own.ensures ∙ ap (memberships_in c.args.org.now) c.memberships.ensures)
    (c.as_slice.ensures.value ∙ c.in_ok-roles.ensures))
    c.push_roles.ensures
