use Rattle.std.proofs.Common.{◌≡◌, ◌++◌, ◌∙◌, List, OnOk, ap, subst}
use Rattle.portal_keeper.specs.declared.change.Change.{Change}
use Rattle.portal_rows.specs.OrgRows.{memberships_in}
use Rattle.std.proofs.Common.{ap₂, ℕ, Option}
use Rattle.portal_keeper.specs.declared.row.RowKind.TheVariants as kind
use Rattle.portal_state.specs.ChangedRows.{changes_between, org_body_with}
use Rattle.portal_state.proofs.row_changes.people.push_roles.Goals as goal

pub returns : goal.returns
returns c =
    subst (λ (l : List Change). OnOk c.push_between.result
    (c.push_between.new.changes.items ≡ c.args.changes.now.items ++ l))
    (ap (λ (key : List ℕ). changes_between kind.Org key c.in_ok-before.before c.in_ok-after.after) c.in_ok-key.ensures
    ∙ ap₂ (λ (b a : Option (List ℕ)). changes_between kind.Org c.args.name.now b a)
    (c.in_ok-before.ensures
    ∙ ap₂ org_body_with (c.memberships_in-own.ensures ∙ ap (memberships_in c.args.name.now) c.memberships.ensures)
    c.org.ensures)
    (c.in_ok-after.ensures ∙ ap (org_body_with c.args.roles.now) c.org-2.ensures))
    c.push_between.ensures
