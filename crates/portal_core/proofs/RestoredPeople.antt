-- People who are put together from organizations with their roles.
use Rattle.std.proofs.Common.{◌≡◌, ◌≢◌, ℕ, Bool, true, false, List, [], ◌∷◌, ◌++◌, map, inl, inr, refl, sym, ap, ap₂}
use Rattle.std.proofs.Common.{◌∙◌}
use Rattle.std.proofs.Common.{subst, All, IsTrue}
use Rattle.std.specs.Prelude.{is_some}
use Rattle.std.specs.List.{filter, flat_map}
use Rattle.std.specs.Cmp.Lexicographic.{slice_cmp}
use Rattle.std.specs.Ordering.{nat_cmp, ordering_then}
use Rattle.std.specs.Str.{bytes_eq}
use Rattle.std.specs.declared.cmp.Ordering.{Ordering}
use Rattle.std.specs.declared.cmp.Ordering.TheVariants.{Less}
use Rattle.std.proofs.lemmas.Cmp.{nat_list_cmp_total}
use Rattle.std.proofs.lemmas.List.Elements.{All-map, filter-append}
use Rattle.std.proofs.lemmas.Slice.Eq.{bytes_eq-Decides}
use Rattle.portal_base.specs.Ordered.{IsAscending, ascending}
use Rattle.portal_base.proofs.Filtered.{filter-all, is_some-find_any}
use Rattle.portal_base.proofs.Unique.{IsIn, below_in, not_below_itself}
use Rattle.portal_base.proofs.Upserted.{All-IsIn, All-each, are_apart-IsAscending, ascending-same}
use Rattle.datastore_table.proofs.ReferenceLemmas.{found-any}
use Rattle.org_roles.specs.Distinct.{have_distinct_names, have_distinct_org_names, have_distinct_pairs}
use Rattle.org_roles.specs.Order.{membership_cmp, membership_cmp_total, org_cmp, org_cmp_total, user_cmp}
use Rattle.org_roles.specs.PeopleLists.{PeopleLists, org_in}
use Rattle.org_roles.specs.declared.entry.Membership.{Membership}
use Rattle.org_roles.specs.declared.entry.Org.{Org}
use Rattle.org_roles.specs.declared.entry.User.{User}
use Rattle.org_roles.proofs.PeopleLemmas.{AreSorted-ascending, are_apart-orgs, are_apart-roles}
use Rattle.packages.proofs.FindLemmas.{IsIn-map, fails}
use Rattle.portal_rows.specs.KeptValues.{kept_org_cmp}
use Rattle.portal_rows.specs.OrgRows.{IsOrgWithRoles, memberships_in}
use Rattle.portal_rows.specs.declared.org_reading.OrgWithRoles.{OrgWithRoles}
use Rattle.portal_rows.proofs.MemberLemmas.{IsAscending-append, ascending-made, flat_map-IsIn}
use Rattle.portal_core.specs.Restored.{ArePeopleOf}
use Rattle.portal_state.specs.Values.{with_roles}

-- the organizations, and the roles in all of them
abbrev pub orgs_of : List OrgWithRoles → List Org
orgs_of kept = map (λ o. o.org) kept

abbrev pub roles_of : List OrgWithRoles → List Membership
roles_of kept = flat_map (λ o. o.roles) kept

-- each of them is an organization with its own roles
abbrev EachIs : List OrgWithRoles → Type 0
EachIs kept = (o : OrgWithRoles) → IsIn o kept → IsOrgWithRoles o

-- ---- order

orgs_of-ascend : (kept : List OrgWithRoles) → IsAscending kept_org_cmp kept → IsAscending org_cmp (orgs_of kept)
orgs_of-ascend kept up =
    ascending-made (λ (o : OrgWithRoles). o.org) kept_org_cmp org_cmp kept (λ x y m n less. less) up

own_org : (o : OrgWithRoles) → IsOrgWithRoles o → (m : Membership) → IsIn m o.roles → m.org ≡ o.org.name
own_org o is m within = All-IsIn (λ (n : Membership). n.org ≡ o.org.name) o.roles is.roles.own m within

-- A role in an organization is before each role in a later one.
role_before : (o p : OrgWithRoles) → IsOrgWithRoles o → IsOrgWithRoles p → kept_org_cmp o p ≡ Less → (m n : Membership)
    → IsIn m o.roles → IsIn n p.roles → membership_cmp m n ≡ Less
role_before o p is also less m n i j =
    ap (λ (r : Ordering). ordering_then r (slice_cmp nat_cmp m.user n.user))
    (ap₂ (slice_cmp nat_cmp) (own_org o is m i) (own_org p also n j) ∙ less)

roles_of-ascend : (kept : List OrgWithRoles) → EachIs kept → IsAscending kept_org_cmp kept
    → IsAscending membership_cmp (roles_of kept)
roles_of-ascend [] each up = tt
roles_of-ascend (o ∷ kept) each up =
    IsAscending-append membership_cmp o.roles (roles_of kept) (each o (inl refl)).roles.ascending
    (roles_of-ascend kept (λ p m. each p (inr m)) up.1)
    (λ m n i j.
    let w = flat_map-IsIn (λ (p : OrgWithRoles). p.roles) n kept j in
    role_before o w.0 (each o (inl refl)) (each w.0 (inr w.1)) (below_in kept_org_cmp o w.0 kept up.0 w.1) m n i w.2)

-- ---- the roles in one organization

own_roles : (o : OrgWithRoles) → IsOrgWithRoles o → memberships_in o.org.name o.roles ≡ o.roles
own_roles o is =
    filter-all (λ (m : Membership). bytes_eq m.org o.org.name) o.roles
    (λ m within. (bytes_eq-Decides m.org o.org.name).1 (own_org o is m within))

none_passes : {X : Type 0} (p : X → Bool) (xs : List X) → ((x : X) → IsIn x xs → p x ≡ false) → filter p xs ≡ []
none_passes p [] none = refl
none_passes {X} p (x ∷ xs) none = rw (none x (inl refl)) (none_passes p xs (λ y m. none y (inr m)))

-- An organization has none of the roles that are in other organizations.
other_role : (name : List ℕ) (o : OrgWithRoles) → IsOrgWithRoles o → (o.org.name ≡ name → ⊥) → (m : Membership)
    → IsIn m o.roles → bytes_eq m.org name ≡ false
other_role name o is other m within =
    fails (bytes_eq m.org name)
    (λ same. other (sym (own_org o is m within) ∙ (bytes_eq-Decides m.org name).0 same))

no_roles : (name : List ℕ) (kept : List OrgWithRoles) → EachIs kept
    → ((o : OrgWithRoles) → IsIn o kept → o.org.name ≡ name → ⊥) → memberships_in name (roles_of kept) ≡ []
no_roles name kept each other =
    none_passes (λ (m : Membership). bytes_eq m.org name) (roles_of kept)
    (λ m within.
    let w = flat_map-IsIn (λ (p : OrgWithRoles). p.roles) m kept within in
    other_role name w.0 (each w.0 w.1) (other w.0 w.1) m w.2)

below_differs : (o p : OrgWithRoles) → kept_org_cmp o p ≡ Less → o.org.name ≡ p.org.name → ⊥
below_differs o p less same =
    not_below_itself (slice_cmp nat_cmp) nat_list_cmp_total p.org.name
    (subst (λ (name : List ℕ). slice_cmp nat_cmp name p.org.name ≡ Less) same less)

-- Of all roles, those in an organization are its own.
roles_in : (kept : List OrgWithRoles) → EachIs kept → IsAscending kept_org_cmp kept → (o : OrgWithRoles) → IsIn o kept
    → memberships_in o.org.name (roles_of kept) ≡ o.roles
roles_in [] each up o m = absurd m
roles_in (p ∷ kept) each up o (inl same) =
    filter-append (λ (m : Membership). bytes_eq m.org o.org.name) p.roles (roles_of kept)
    ∙ ap₂ (λ (first rest : List Membership). first ++ rest)
    (subst (λ (q : OrgWithRoles). memberships_in q.org.name p.roles ≡ p.roles) (sym same)
    (own_roles p (each p (inl refl))))
    (no_roles o.org.name kept (λ q m. each q (inr m))
    (λ q m called. below_differs p q (below_in kept_org_cmp p q kept up.0 m)
    (ap (λ (r : OrgWithRoles). r.org.name) (sym same) ∙ sym called)))
    ∙ append_nothing p.roles
    ∙ ap (λ (q : OrgWithRoles). q.roles) (sym same)
  where
    append_nothing : (ms : List Membership) → ms ++ [] ≡ ms
    append_nothing [] = refl
    append_nothing (m ∷ ms) = ap (λ (l : List Membership). m ∷ l) (append_nothing ms)
roles_in (p ∷ kept) each up o (inr m) =
    filter-append (λ (n : Membership). bytes_eq n.org o.org.name) p.roles (roles_of kept)
    ∙ ap (λ (first : List Membership). first ++ memberships_in o.org.name (roles_of kept))
    (none_passes (λ (n : Membership). bytes_eq n.org o.org.name) p.roles
    (other_role o.org.name p (each p (inl refl)) (below_differs p o (below_in kept_org_cmp p o kept up.0 m))))
    ∙ roles_in kept (λ q n. each q (inr n)) up.1 o m

same_orgs : (roles : List Membership) (kept : List OrgWithRoles)
    → ((o : OrgWithRoles) → IsIn o kept → memberships_in o.org.name roles ≡ o.roles)
    → map (with_roles roles) (orgs_of kept) ≡ kept
same_orgs roles [] own = refl
same_orgs roles (o ∷ kept) own =
    ap₂ (λ (first : OrgWithRoles) (rest : List OrgWithRoles). first ∷ rest)
    (ap (λ (ms : List Membership). record { org = o.org; roles = ms }) (own o (inl refl)))
    (same_orgs roles kept (λ p m. own p (inr m)))

-- ---- the people

pub orgs_distinct : (kept : List OrgWithRoles) (orgs : List Org) → IsAscending kept_org_cmp kept → orgs ≡ orgs_of kept
    → have_distinct_org_names orgs ≡ true
orgs_distinct kept orgs up made =
    ap have_distinct_org_names made
    ∙ sym (are_apart-orgs (orgs_of kept))
    ∙ are_apart-IsAscending org_cmp org_cmp_total (orgs_of kept) (orgs_of-ascend kept up)

each-is : (kept : List OrgWithRoles) → All IsOrgWithRoles kept → EachIs kept
each-is kept all o m = All-IsIn IsOrgWithRoles kept all o m

pub roles_distinct : (kept : List OrgWithRoles) (roles : List Membership) → All IsOrgWithRoles kept
    → IsAscending kept_org_cmp kept → roles ≡ roles_of kept → have_distinct_pairs roles ≡ true
roles_distinct kept roles all up made =
    ap have_distinct_pairs made
    ∙ sym (are_apart-roles (roles_of kept))
    ∙ are_apart-IsAscending membership_cmp membership_cmp_total (roles_of kept)
    (roles_of-ascend kept (each-is kept all) up)

-- Each role is in one of the organizations.
role_has_org : (kept : List OrgWithRoles) → EachIs kept → (people : PeopleLists) → people.orgs ≡ orgs_of kept
    → (m : Membership) → IsIn m (roles_of kept) → IsTrue (is_some (org_in people m.org))
role_has_org kept each people same m within =
    let w = flat_map-IsIn (λ (p : OrgWithRoles). p.roles) m kept within in
    is_some-find_any (λ (o : Org). bytes_eq o.name m.org) people.orgs
    ∙ found-any (λ (o : Org). bytes_eq o.name m.org) w.0.org people.orgs
    (subst (IsIn w.0.org) (sym same) (IsIn-map (λ (p : OrgWithRoles). p.org) w.0 kept w.1))
    ((bytes_eq-Decides w.0.org.name m.org).1 (sym (own_org w.0 (each w.0 w.1) m w.2)))

pub people_made : (kept : List OrgWithRoles) (users : List User) (orgs : List Org) (roles : List Membership)
    (people : PeopleLists) → have_distinct_names users ≡ true → All IsOrgWithRoles kept → IsAscending kept_org_cmp kept
    → All (λ (o : OrgWithRoles). o.org.name ≢ []) kept → orgs ≡ orgs_of kept → roles ≡ roles_of kept
    → people.users ≡ ascending user_cmp users → people.orgs ≡ ascending org_cmp orgs
    → people.roles ≡ ascending membership_cmp roles → ArePeopleOf kept people
people_made kept users orgs roles people names all up named orgs_are roles_are users_now orgs_now roles_now = record {
  orgs = ap₂ (λ (ms : List Membership) (os : List Org). map (with_roles ms) os) same_roles same_list
      ∙ same_orgs (roles_of kept) kept (roles_in kept each up);
  sorted = AreSorted-ascending users people.users orgs people.orgs roles people.roles names
      (orgs_distinct kept orgs up orgs_are) (roles_distinct kept roles all up roles_are) users_now orgs_now roles_now;
  named = subst (All (λ (o : Org). o.name ≢ [])) (sym same_list)
      (All-map (λ (o : Org). o.name ≢ []) (λ (o : OrgWithRoles). o.org) kept named);
  roles_have_orgs = subst (All (λ (m : Membership). IsTrue (is_some (org_in people m.org)))) (sym same_roles)
      (All-each (λ (m : Membership). IsTrue (is_some (org_in people m.org))) (roles_of kept)
      (role_has_org kept each people same_list));
}
  where
    each : EachIs kept
    each = each-is kept all

    same_list : people.orgs ≡ orgs_of kept
    same_list =
        orgs_now
        ∙ ap (ascending org_cmp) orgs_are
        ∙ ascending-same org_cmp org_cmp_total (orgs_of kept) (orgs_of-ascend kept up)

    same_roles : people.roles ≡ roles_of kept
    same_roles =
        roles_now
        ∙ ap (ascending membership_cmp) roles_are
        ∙ ascending-same membership_cmp membership_cmp_total (roles_of kept) (roles_of-ascend kept each up)
