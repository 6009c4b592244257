use Rattle.std.proofs.Common.{◌≡◌, ◌∷◌, ◌++◌, [], ◌∙◌, ap, sym}
use Rattle.portal_file.proofs.OpeningLemmas.{roles_paired}
use Rattle.portal_file.proofs.orgs.one_org.Goals as goal
use Rattle.portal_file.specs.Tables.{roles_in}
use Rattle.toml.specs.View.{table_view}

pub returns-clause-pairs : goal.returns-clause-pairs
returns-clause-pairs c =
    let table = table_view c.args.table.now in
    let alone : c.push.new.items ≡ c.in_ok-org.org ∷ [] =
    c.in_ok-push.ensures ∙ ap (λ os. os ++ c.in_ok-org.org ∷ []) c.new-orgs.ensures in
    rw alone (roles_paired c.in_ok-org.org table c.in_ok-roles.roles
    (sym (ap (λ name. roles_in name table) c.as_str.ensures) ∙ c.in_ok-roles.ensures.ok) c.in_ok-roles.ensures.pairs)
