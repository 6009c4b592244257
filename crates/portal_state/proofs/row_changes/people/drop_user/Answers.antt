use Rattle.std.proofs.Common.{not, rules}
use Rattle.std.specs.Str.{bytes_eq}
use Rattle.std.proofs.lemmas.Fn.{filter_same}
use Rattle.org_roles.specs.declared.entry.Membership.{Membership}
use Rattle.portal_state.proofs.row_changes.people.drop_user.Goals as goal

pub returns : goal.returns
returns c =
    filter_same _ (λ (m : Membership). not (bytes_eq m.user c.args.user.now)) _ (λ x b f' h. search rules) _ _
    c.retain.ensures.filtered
