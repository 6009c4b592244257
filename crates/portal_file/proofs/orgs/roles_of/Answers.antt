use Rattle.std.proofs.Common.{◌≡◌, ◌∷◌, ◌++◌, [], Some, option_map, string_bytes, sym, ap, ◌∙◌, true}
use Rattle.std.proofs.lemmas.Map.Iter.{rest_more}
use Rattle.std.specs.Map.Iter.{deref_pair}
use Rattle.std.specs.Option.{option_copied}
use Rattle.std.proofs.lemmas.List.{append-nil}
use Rattle.std.proofs.lemmas.Option.{MatchOption-at_some}
use Rattle.org_roles.specs.Distinct.{have_distinct_pairs}
use Rattle.portal_file.proofs.PairLemmas.{roles_apart}
use Rattle.portal_file.proofs.TableLemmas.{roles-turn}
use Rattle.portal_file.specs.File.{memberships_of}
use Rattle.portal_file.specs.Tables.{named_role, roles_of}
use Rattle.portal_file.proofs.orgs.roles_of.Goals as goal
use Rattle.toml.specs.Data.{as_str}
use Rattle.toml.specs.View.{view, members_view}

pub loop-user-preserved : goal.loop-user-preserved
loop-user-preserved c =
    let org = c.args.org.now in
    let front = c.loop-user.roles in
    let user = c.in-Some.user.now in
    let role = c.in-Some-as_str.role.now in
    let rest : c.loop-user.user-iterator ≡ (user, c.in-Some.value.now) ∷ c.next.new.self =
    rest_more deref_pair c.loop-user.user-iterator c.next.new.self c.next.result (c.in-Some.user, c.in-Some.value)
    c.in-Some.is c.next.ensures.steps in
    let said : as_str (view c.in-Some.value.now) ≡ Some role =
    sym c.as_str.ensures ∙ ap option_copied c.in-Some-as_str.is in
    let pushed : c.push.new.items ≡ front ++ named_role org (string_bytes user) role ∷ [] =
    c.in_ok-push.ensures ∙ ap (λ r. front ++ r ∷ [])
    (c.in_ok-named_role.ensures ∙ ap (λ u. named_role org u role) c.as_str-in-loop-user.ensures.value) in
    rw pushed (roles-turn org front user c.in-Some.value.now c.next.new.self role said
    ∙ ap (λ es. option_map (λ more. front ++ more) (roles_of org (members_view es))) (sym rest)
    ∙ c.loop-user.invariant)

pub returns-clause-pairs : goal.returns-clause-pairs
returns-clause-pairs c =
    let org = c.args.org.now in
    let entries = c.args.table.now.entries in
    let front = c.loop-user.roles in
    let (_, _, _, _, _, ordered, _) = c.into_iter-user-iterator.ensures.into_iter_gives in
    let held : roles_of org (members_view entries) ≡ Some front =
    sym c.loop-user.invariant
    ∙ ap (λ es. option_map (λ more. front ++ more) (roles_of org (members_view es))) (c.in-None.ensures.steps.0)
    ∙ ap Some (append-nil front) in
    MatchOption-at_some _ (λ rs. have_distinct_pairs (memberships_of rs) ≡ true) front held
    (roles_apart org entries ordered)
