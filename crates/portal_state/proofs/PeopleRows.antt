-- The changes of rows for a change of people.
use Rattle.std.proofs.Common.{◌≡◌, ℕ, true, not, ◌&&◌, cond, List, [], ◌∷◌, ◌++◌, Option, Some, None, map, refl}
use Rattle.std.proofs.Common.{sym, ap, ap₂, ◌∙◌}
use Rattle.std.specs.Prelude.{filter, is_some}
use Rattle.std.specs.Ordering.{is_eq}
use Rattle.std.specs.Str.{bytes_eq}
use Rattle.std.proofs.lemmas.Slice.Eq.{bytes_eq-Decides}
use Rattle.portal_base.specs.Ordered.{IsAscending, dropped, upserted}
use Rattle.portal_base.proofs.Filtered.{IsAscending-filter, IsIn-filter, filter-filter}
use Rattle.portal_base.proofs.Upserted.{filter-upserted}
use Rattle.org_roles.specs.Changed.{with_org, with_role, without_role}
use Rattle.org_roles.specs.Order.{membership_cmp, membership_cmp_total, pair_at}
use Rattle.org_roles.specs.PeopleLists.{PeopleLists, org_in}
use Rattle.org_roles.specs.declared.change.OrgChange.{OrgChange}
use Rattle.org_roles.specs.declared.change.OrgChange.TheVariants as org
use Rattle.org_roles.specs.declared.entry.Membership.{Membership}
use Rattle.org_roles.specs.declared.entry.Org.{Org}
use Rattle.org_roles.specs.declared.role.Role.TheVariants.{Member}
use Rattle.org_roles.proofs.ChangeLemmas.{org_in-with_org, org_in-without_org}
use Rattle.org_roles.proofs.PeopleLemmas.{is_eq-membership_cmp}
use Rattle.organization_answers.specs.Fit.{IsFitOrg}
use Rattle.organization_answers.specs.Owners.{owners_of}
use Rattle.portal_calls.specs.declared.call.Call.{Call}
use Rattle.portal_keeper.specs.Rows.{body_at}
use Rattle.portal_keeper.specs.declared.change.Change.{Change}
use Rattle.portal_keeper.specs.declared.change.Change.TheVariants.{Remove}
use Rattle.portal_keeper.specs.declared.row.KeptRow.{KeptRow}
use Rattle.portal_keeper.specs.declared.row.RowKind.TheVariants as kind
use Rattle.portal_rows.specs.OrgRows.{memberships_in, org_row}
use Rattle.portal_state.specs.Answer.{call_view_of}
use Rattle.portal_state.specs.Changed.{changed}
use Rattle.portal_state.specs.ChangedRows.{changes_between, changes_of_people, org_body, org_body_with, org_changes}
use Rattle.portal_state.specs.Entries.{DropOrg, DropRole, PutOrg, PutRole}
use Rattle.portal_state.specs.EntriesOf.{drop_of_role, roles_in}
use Rattle.portal_state.specs.KeptRows.{IsSized, kept_rows}
use Rattle.portal_state.specs.Planned.{People}
use Rattle.portal_state.specs.RowChanges.{planned_row_changes}
use Rattle.portal_state.specs.State.{State}
use Rattle.portal_state.specs.Valid.{IsValid}
use Rattle.portal_state.proofs.ChangesFor.{changes_for-++, changes_for-map, changes_for-one}
use Rattle.portal_state.proofs.DropLemmas.{filter-agree_in}
use Rattle.portal_state.proofs.RowBodies.{body-org}

-- ---- the row of an organization after a change

-- An organization that is put has its own row, with the roles that are in it.
pub body_put : (o : Org) (people : PeopleLists)
    → org_body o.name (with_org o people) ≡ Some (org_row o (memberships_in o.name people.roles)).body
body_put o people = ap (org_body_with (memberships_in o.name people.roles)) (org_in-with_org o people)

pub own_ascend : (name : List ℕ) (roles : List Membership) → IsAscending membership_cmp roles
    → IsAscending membership_cmp (memberships_in name roles)
own_ascend name roles up = IsAscending-filter membership_cmp (λ (m : Membership). bytes_eq m.org name) roles up

-- A role that is set is set among those in its organization.
pub body_with_role : (role : Membership) (people : PeopleLists) → IsAscending membership_cmp people.roles
    → org_body role.org (with_role role people)
    ≡ org_body_with (upserted membership_cmp role (memberships_in role.org people.roles)) (org_in people role.org)
body_with_role role people up =
    ap (λ (roles : List Membership). org_body_with roles (org_in people role.org))
    (filter-upserted membership_cmp membership_cmp_total (λ (m : Membership). bytes_eq m.org role.org) role
    people.roles up
    ∙ ap (λ b. cond b (upserted membership_cmp role own) (dropped (λ (m : Membership). membership_cmp m role) own))
    ((bytes_eq-Decides role.org role.org).1 refl))
  where
    own : List Membership
    own = memberships_in role.org people.roles

-- A user's role that is dropped is dropped from those in the organization.
pub body_without_role : (name user : List ℕ) (people : PeopleLists)
    → org_body name (without_role name user people)
    ≡ org_body_with (filter (λ (m : Membership). not (bytes_eq m.user user)) (memberships_in name people.roles))
    (org_in people name)
body_without_role name user people =
    ap (λ (roles : List Membership). org_body_with roles (org_in people name))
    (filter-filter (λ (m : Membership). bytes_eq m.org name)
    (λ (m : Membership). not (is_eq (pair_at name user m))) people.roles
    ∙ filter-agree_in (λ (m : Membership). not (is_eq (pair_at name user m)))
    (λ (m : Membership). not (bytes_eq m.user user)) (memberships_in name people.roles)
    (λ m within. ap not (is_eq-membership_cmp m (record { org = name; user = user; role = Member })
    ∙ ap (λ b. b && bytes_eq m.user user)
    (IsIn-filter (λ (n : Membership). bytes_eq n.org name) m people.roles within).1)))

-- ---- what is added for it

pub put_changes : (o : Org) (people : PeopleLists) (roles : List Membership) (before : Option (List ℕ)) (row : KeptRow)
    → roles ≡ memberships_in o.name people.roles → before ≡ org_body_with roles (org_in people o.name)
    → row ≡ org_row o roles
    → changes_between row.kind row.key before (Some row.body) ≡ org_changes o.name people (with_org o people)
put_changes o people roles before row own was is =
    ap (λ (r : KeptRow). changes_between r.kind r.key before (Some r.body)) is
    ∙ ap (λ (b : Option (List ℕ)). changes_between kind.Org o.name b (Some (org_row o roles).body)) was
    ∙ ap (λ (ms : List Membership). changes_between kind.Org o.name (org_body_with ms (org_in people o.name))
    (Some (org_row o ms).body)) own
    ∙ ap (changes_between kind.Org o.name (org_body o.name people)) (sym (body_put o people))

pub role_changes : (m : Membership) (people : PeopleLists) (own roles : List Membership)
    → IsAscending membership_cmp people.roles → own ≡ memberships_in m.org people.roles
    → roles ≡ upserted membership_cmp m own
    → changes_between kind.Org m.org (org_body m.org people) (org_body_with roles (org_in people m.org))
    ≡ org_changes m.org people (with_role m people)
role_changes m people own roles up is made =
    ap (changes_between kind.Org m.org (org_body m.org people))
    (ap (λ (ms : List Membership). org_body_with ms (org_in people m.org)) (made ∙ ap (upserted membership_cmp m) is)
    ∙ sym (body_with_role m people up))

pub loss_changes : (name user : List ℕ) (people : PeopleLists) (own roles : List Membership)
    → own ≡ memberships_in name people.roles
    → roles ≡ filter (λ (m : Membership). not (bytes_eq m.user user)) own
    → changes_between kind.Org name (org_body name people) (org_body_with roles (org_in people name))
    ≡ org_changes name people (without_role name user people)
loss_changes name user people own roles is made =
    ap (changes_between kind.Org name (org_body name people))
    (ap (λ (ms : List Membership). org_body_with ms (org_in people name))
    (made ∙ ap (filter (λ (m : Membership). not (bytes_eq m.user user))) is)
    ∙ sym (body_without_role name user people))

-- ---- the changes for a planned change of people

is_there : {X : Type 0} (o : Option X) → is_some o ≡ true → (x : X) × (o ≡ Some x)
is_there None is = absurd (cc)
is_there (Some x) is = (x, refl)

-- The row of an organization goes with the organization.
removed : (name : List ℕ) (state : State) → IsValid state → IsSized state
    → IsValid (changed (People (org.Remove name)) state) → IsSized (changed (People (org.Remove name)) state)
    → is_some (org_in state.people name) ≡ true
    → planned_row_changes (People (org.Remove name)) state ≡ changes_of_people (org.Remove name) state.people
removed name state valid sized also also_sized there =
    changes_for-++ before after (map drop_of_role own) (DropOrg name ∷ [])
    ∙ ap₂ (λ (l m : List Change). l ++ m)
    (changes_for-map before after drop_of_role (λ role. Remove kind.Org role.org) own
    (λ role m. let same : role.org ≡ name =
    (bytes_eq-Decides role.org name).0
    (IsIn-filter (λ (n : Membership). bytes_eq n.org name) role state.people.roles m).1 in
    changes_for-one before after (drop_of_role role) (Some (body role.org)) None (was role.org same)
    (is role.org same)))
    (changes_for-one before after (DropOrg name) (Some (body name)) None (was name refl) (is name refl))
  where
    new : State
    new = changed (People (org.Remove name)) state

    before : List KeptRow
    before = kept_rows state

    after : List KeptRow
    after = kept_rows new

    own : List Membership
    own = roles_in name state.people.roles

    gone : (o : Org) × (org_in state.people name ≡ Some o)
    gone = is_there (org_in state.people name) there

    body : List ℕ → List ℕ
    body n = (org_row gone.0 (memberships_in n state.people.roles)).body

    was : (n : List ℕ) → n ≡ name → body_at before kind.Org n ≡ Some (body n)
    was n same =
        body-org state valid sized n
        ∙ ap (org_body_with (memberships_in n state.people.roles)) (ap (org_in state.people) same ∙ gone.1)

    is : (n : List ℕ) → n ≡ name → body_at after kind.Org n ≡ None
    is n same =
        body-org new also also_sized n
        ∙ ap (org_body_with (memberships_in n new.people.roles))
        (ap (org_in new.people) same ∙ org_in-without_org state.people name)

pub people-changes : (change : OrgChange) (call : Call) (state : State) → IsValid state → IsSized state
    → IsFitOrg (call_view_of call state) (owners_of state.sources) change → IsValid (changed (People change) state)
    → IsSized (changed (People change) state)
    → planned_row_changes (People change) state ≡ changes_of_people change state.people
people-changes (org.Create o) call state valid sized fit also also_sized =
    changes_for-one (kept_rows state) (kept_rows (changed (People (org.Create o)) state)) (PutOrg o) _ _
    (body-org state valid sized o.name)
    (body-org (changed (People (org.Create o)) state) also also_sized o.name)
people-changes (org.Patch o) call state valid sized fit also also_sized =
    changes_for-one (kept_rows state) (kept_rows (changed (People (org.Patch o)) state)) (PutOrg o) _ _
    (body-org state valid sized o.name)
    (body-org (changed (People (org.Patch o)) state) also also_sized o.name)
people-changes (org.Remove name) call state valid sized fit also also_sized =
    removed name state valid sized also also_sized fit.own.exists
people-changes (org.SetRole name user role) call state valid sized fit also also_sized =
    changes_for-one (kept_rows state) (kept_rows (changed (People (org.SetRole name user role)) state))
    (PutRole (record { org = name; user = user; role = role })) _ _
    (body-org state valid sized name)
    (body-org (changed (People (org.SetRole name user role)) state) also also_sized name)
people-changes (org.DropRole name user) call state valid sized fit also also_sized =
    changes_for-one (kept_rows state) (kept_rows (changed (People (org.DropRole name user)) state))
    (DropRole name user) _ _
    (body-org state valid sized name)
    (body-org (changed (People (org.DropRole name user)) state) also also_sized name)
