use Rattle.std.proofs.Common.{not, rules, ◌∙◌}
use Rattle.std.specs.Str.{bytes_eq}
use Rattle.std.proofs.lemmas.Fn.{filter_same}
use Rattle.org_roles.proofs.ChangeLemmas.{kept_roles}
use Rattle.org_roles.proofs.people.prepared.drop_roles_in.Goals as goal

pub returns : goal.returns
returns c =
    filter_same _ (λ m. not (bytes_eq m.org c.args.org.now)) _
    (λ m b g called. search rules) _ _ c.retain.ensures.filtered
    ∙ kept_roles c.args.org.now c.args.roles.now.items
