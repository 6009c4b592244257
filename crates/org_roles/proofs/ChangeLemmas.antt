-- What look-ups find after the changes of people, and what the changes keep.
use Rattle.std.proofs.Common.{◌≡◌, ◌≢◌, ℕ, Bool, true, false, ◌&&◌, not, List, [], ◌∷◌, Option, Some, None, refl}
use Rattle.std.proofs.Common.{sym, ap, ◌∙◌, ◌⊎◌}
use Rattle.std.specs.Prelude.{filter, if◌then◌else◌, is_some, is_none, IsTrue}
use Rattle.std.specs.declared.cmp.Ordering.TheVariants.{Equal}
use Rattle.std.specs.Ordering.{is_eq, nat_cmp}
use Rattle.std.specs.Cmp.Lexicographic.{slice_cmp}
use Rattle.std.specs.List.{All}
use Rattle.std.specs.Option.{option_map}
use Rattle.std.specs.Str.{bytes_eq}
use Rattle.std.proofs.lemmas.Cmp.{tied_itself}
use Rattle.std.proofs.lemmas.List.Elements.{filter_agree}
use Rattle.std.proofs.lemmas.Map.Text.{is_eq-slice_cmp}
use Rattle.std.proofs.lemmas.Slice.Eq.{bytes_eq-Decides}
use Rattle.portal_base.specs.Ordered.{found, dropped}
use Rattle.portal_base.proofs.Filtered.{find-same}
use Rattle.portal_base.proofs.Upserted.{found-upserted, found-upserted_other, found-dropped, found-dropped_other}
use Rattle.portal_base.proofs.Upserted.{IsAscending-upserted, IsAscending-dropped, IsIn-dropped}
use Rattle.portal_base.proofs.Upserted.{All-each, All-IsIn, All-dropped, All-upserted}
use Rattle.org_roles.specs.declared.change.OrgChange.{OrgChange}
use Rattle.org_roles.specs.declared.change.OrgChange.TheVariants.{Create, Patch, Remove, SetRole, DropRole}
use Rattle.org_roles.specs.declared.change.OrgFault.{OrgFault}
use Rattle.org_roles.specs.declared.change.OrgFault.TheVariants.{UnknownOrg, UnknownUser}
use Rattle.org_roles.specs.declared.role.Role.{Role}
use Rattle.org_roles.specs.declared.entry.Org.{Org}
use Rattle.org_roles.specs.declared.entry.Membership.{Membership}
use Rattle.org_roles.specs.Order.{org_cmp, membership_cmp, org_cmp_total, membership_cmp_total}
use Rattle.org_roles.specs.Order.{org_at, membership_in_org_at, pair_at, IsKey-org_at, IsKey-pair_at}
use Rattle.org_roles.specs.PeopleLists.{PeopleLists, AreSorted, PeopleWithRoom, RolesHaveOrgs, is_user_in, org_in}
use Rattle.org_roles.specs.PeopleLists.{membership_in, role_in}
use Rattle.org_roles.specs.Changed.{with_org, without_org, with_role, without_role, changed_people, people_after}
use Rattle.org_roles.specs.Changed.{org_fault, AreAllowed}
use Rattle.org_roles.proofs.PeopleLemmas.{is_eq-membership_cmp, unequal, differ}

-- ---- look-ups by keys

is_eq-pair_at : (org user : List ℕ) (m : Membership)
    → is_eq (pair_at org user m) ≡ (bytes_eq m.org org && bytes_eq m.user user)
is_eq-pair_at org user m = is_eq-membership_cmp m (record { org = org; user = user; role = m.role })

-- The organization of a name is found at the name.
pub org_found : (p : PeopleLists) (name : List ℕ) → org_in p name ≡ found (org_at name) p.orgs
org_found p name = find-same _ _ (λ o. sym (is_eq-slice_cmp o.name name)) p.orgs

-- The membership of a pair is found at the pair.
pub membership_found : (p : PeopleLists) (org user : List ℕ)
    → membership_in p org user ≡ found (pair_at org user) p.roles
membership_found p org user = find-same _ _ (λ m. sym (is_eq-pair_at org user m)) p.roles

pub role_found : (p : PeopleLists) (org user : List ℕ)
    → role_in p org user ≡ option_map (λ m. m.role) (found (pair_at org user) p.roles)
role_found p org user = ap (option_map (λ m. m.role)) (membership_found p org user)

-- Names that compare as equal are equal.
same_name : (a b : List ℕ) → slice_cmp nat_cmp a b ≡ Equal → a ≡ b
same_name a b e = (bytes_eq-Decides a b).0 (sym (is_eq-slice_cmp a b) ∙ ap is_eq e)

-- Different names don't compare as equal.
other_name : (a b : List ℕ) → a ≢ b → is_eq (slice_cmp nat_cmp a b) ≡ false
other_name a b n = is_eq-slice_cmp a b ∙ unequal a b n

-- ---- an organization that is set

pub org_in-with_org : (o : Org) (p : PeopleLists) → org_in (with_org o p) o.name ≡ Some o
org_in-with_org o p =
    org_found (with_org o p) o.name
    ∙ found-upserted org_cmp (org_at o.name) (IsKey-org_at o.name) o p.orgs (tied_itself org_cmp_total o)

pub org_in-with_org_other : (o : Org) (p : PeopleLists) (name : List ℕ) → name ≢ o.name
    → org_in (with_org o p) name ≡ org_in p name
org_in-with_org_other o p name n =
    org_found (with_org o p) name
    ∙ found-upserted_other org_cmp org_cmp_total (org_at name) (IsKey-org_at name) o p.orgs
    (other_name o.name name (λ e. n (sym e)))
    ∙ sym (org_found p name)

-- ---- an organization that is dropped

pub org_in-without_org : (p : PeopleLists) (name : List ℕ) → org_in (without_org name p) name ≡ None
org_in-without_org p name = org_found (without_org name p) name ∙ found-dropped (org_at name) p.orgs

pub org_in-without_org_other : (p : PeopleLists) (name other : List ℕ) → other ≢ name
    → org_in (without_org name p) other ≡ org_in p other
org_in-without_org_other p name other n =
    org_found (without_org name p) other
    ∙ found-dropped_other (org_at name) (org_at other) p.orgs
    (λ o e. other_name o.name other (λ is. n (sym is ∙ same_name o.name name e)))
    ∙ sym (org_found p other)

-- No role names it.
pub without_org-roles : (p : PeopleLists) (name : List ℕ) → All (λ m. m.org ≢ name) (without_org name p).roles
without_org-roles p name =
    All-each (λ (m : Membership). m.org ≢ name) (without_org name p).roles
    (λ m stays is. let gone : is_eq (slice_cmp nat_cmp m.org name) ≡ false =
    (IsIn-dropped (membership_in_org_at name) m p.roles stays).1 in
    let here : is_eq (slice_cmp nat_cmp m.org name) ≡ true =
    is_eq-slice_cmp m.org name ∙ (bytes_eq-Decides m.org name).1 is in
    cc)

-- In other organizations every user keeps the role.
pub role_in-without_org : (p : PeopleLists) (name org user : List ℕ) → org ≢ name
    → role_in (without_org name p) org user ≡ role_in p org user
role_in-without_org p name org user n =
    role_found (without_org name p) org user
    ∙ ap (option_map (λ m. m.role)) (found-dropped_other (membership_in_org_at name) (pair_at org user) p.roles
    (λ m e. is_eq-pair_at org user m
    ∙ ap (λ b. b && bytes_eq m.user user) (unequal m.org org (λ is. n (sym is ∙ same_name m.org name e)))))
    ∙ sym (role_found p org user)

-- ---- a role that is set

pub role_in-with_role : (m : Membership) (p : PeopleLists) → role_in (with_role m p) m.org m.user ≡ Some m.role
role_in-with_role m p =
    role_found (with_role m p) m.org m.user
    ∙ ap (option_map (λ n. n.role))
    (found-upserted membership_cmp (pair_at m.org m.user) (IsKey-pair_at m.org m.user) m p.roles
    (tied_itself membership_cmp_total m))

pub role_in-with_role_other : (m : Membership) (p : PeopleLists) (org user : List ℕ) → (org ≢ m.org) ⊎ (user ≢ m.user)
    → role_in (with_role m p) org user ≡ role_in p org user
role_in-with_role_other m p org user n =
    role_found (with_role m p) org user
    ∙ ap (option_map (λ n. n.role))
    (found-upserted_other membership_cmp membership_cmp_total (pair_at org user) (IsKey-pair_at org user) m p.roles
    (is_eq-pair_at org user m ∙ differ org user m.org m.user n))
    ∙ sym (role_found p org user)

-- ---- a role that is dropped

pub role_in-without_role : (p : PeopleLists) (org user : List ℕ) → role_in (without_role org user p) org user ≡ None
role_in-without_role p org user =
    role_found (without_role org user p) org user
    ∙ ap (option_map (λ m. m.role)) (found-dropped (pair_at org user) p.roles)

-- a membership of one pair isn't one of another pair
apart_from : (org user other_org other_user : List ℕ) (m : Membership) → (other_org ≢ org) ⊎ (other_user ≢ user)
    → (bytes_eq m.org org && bytes_eq m.user user) ≡ true
    → (bytes_eq m.org other_org && bytes_eq m.user other_user) ≡ false
apart_from org user other_org other_user m n here =
    let names = both (bytes_eq m.org org) (bytes_eq m.user user) here in
    rw ((bytes_eq-Decides m.org org).0 names.0, (bytes_eq-Decides m.user user).0 names.1)
    (differ other_org other_user org user n)
  where
    both : (a b : Bool) → (a && b) ≡ true → (a ≡ true) × (b ≡ true)
    both true b h = (refl, h)
    both false b h = absurd (cc)

pub role_in-without_role_other : (p : PeopleLists) (org user other_org other_user : List ℕ)
    → (other_org ≢ org) ⊎ (other_user ≢ user)
    → role_in (without_role org user p) other_org other_user ≡ role_in p other_org other_user
role_in-without_role_other p org user other_org other_user n =
    role_found (without_role org user p) other_org other_user
    ∙ ap (option_map (λ m. m.role)) (found-dropped_other (pair_at org user) (pair_at other_org other_user) p.roles
    (λ m e. is_eq-pair_at other_org other_user m
    ∙ apart_from org user other_org other_user m n (sym (is_eq-pair_at org user m) ∙ ap is_eq e)))
    ∙ sym (role_found p other_org other_user)

-- ---- the users and the order

pub users-changed : (change : OrgChange) (p : PeopleLists) → (changed_people change p).users ≡ p.users
users-changed (Create org) p = refl
users-changed (Patch org) p = refl
users-changed (Remove name) p = refl
users-changed (SetRole org user role) p = refl
users-changed (DropRole org user) p = refl

pub AreSorted-changed : (change : OrgChange) (p : PeopleLists) → AreSorted p → AreSorted (changed_people change p)
AreSorted-changed (Create org) p was =
    let orgs = IsAscending-upserted org_cmp org_cmp_total org p.orgs was.orgs in
    record { users = was.users; orgs = orgs; roles = was.roles }
AreSorted-changed (Patch org) p was =
    let orgs = IsAscending-upserted org_cmp org_cmp_total org p.orgs was.orgs in
    record { users = was.users; orgs = orgs; roles = was.roles }
AreSorted-changed (Remove name) p was = record {
  users = was.users;
  orgs = IsAscending-dropped org_cmp (org_at name) p.orgs was.orgs;
  roles = IsAscending-dropped membership_cmp (membership_in_org_at name) p.roles was.roles;
}
AreSorted-changed (SetRole org user role) p was = record {
  users = was.users;
  orgs = was.orgs;
  roles = IsAscending-upserted membership_cmp membership_cmp_total (record { org = org; user = user; role = role })
      p.roles was.roles;
}
AreSorted-changed (DropRole org user) p was = record {
  users = was.users;
  orgs = was.orgs;
  roles = IsAscending-dropped membership_cmp (pair_at org user) p.roles was.roles;
}

-- ---- each role is in an organization that exists

-- An organization that exists still exists once another is set.
pub org_exists-with_org : (o : Org) (p : PeopleLists) (name : List ℕ) → IsTrue (is_some (org_in p name))
    → IsTrue (is_some (org_in (with_org o p) name))
org_exists-with_org o p name was = by (bytes_eq name o.name) refl
  where
    by : (b : Bool) → bytes_eq name o.name ≡ b → IsTrue (is_some (org_in (with_org o p) name))
    by true is = rw ((bytes_eq-Decides name o.name).0 is, org_in-with_org o p) refl
    by false is =
        ap is_some (org_in-with_org_other o p name (λ e. let here : bytes_eq name o.name ≡ true =
        (bytes_eq-Decides name o.name).1 e in cc)) ∙ was

RolesHaveOrgs-with_org : (o : Org) (p : PeopleLists) → RolesHaveOrgs p → RolesHaveOrgs (with_org o p)
RolesHaveOrgs-with_org o p was = λ k d lt. org_exists-with_org o p _ (was k d lt)

RolesHaveOrgs-without_org : (p : PeopleLists) (name : List ℕ) → RolesHaveOrgs p → RolesHaveOrgs (without_org name p)
RolesHaveOrgs-without_org p name was =
    All-each (λ m. IsTrue (is_some (org_in (without_org name p) m.org))) (without_org name p).roles
    (λ m stays. let there = IsIn-dropped (membership_in_org_at name) m p.roles stays in
    ap is_some (org_in-without_org_other p name m.org (λ e. let here : is_eq (slice_cmp nat_cmp m.org name) ≡ true =
    is_eq-slice_cmp m.org name ∙ (bytes_eq-Decides m.org name).1 e in
    let gone : is_eq (slice_cmp nat_cmp m.org name) ≡ false = there.1 in cc))
    ∙ All-IsIn (λ m. IsTrue (is_some (org_in p m.org))) p.roles was m there.0)

RolesHaveOrgs-with_role : (m : Membership) (p : PeopleLists) → IsTrue (is_some (org_in p m.org)) → RolesHaveOrgs p
    → RolesHaveOrgs (with_role m p)
RolesHaveOrgs-with_role m p exists was =
    All-upserted (λ n. IsTrue (is_some (org_in p n.org))) membership_cmp m p.roles exists was

RolesHaveOrgs-without_role : (p : PeopleLists) (org user : List ℕ) → RolesHaveOrgs p
    → RolesHaveOrgs (without_role org user p)
RolesHaveOrgs-without_role p org user was =
    All-dropped (λ n. IsTrue (is_some (org_in p n.org))) (pair_at org user) p.roles was

-- A role that isn't refused is in an organization that exists.
org_exists_where_set : (org user : List ℕ) (role : Role) (p : PeopleLists)
    → IsTrue (is_none (org_fault (SetRole org user role) p)) → IsTrue (is_some (org_in p org))
org_exists_where_set org user role p allowed =
    by (org_in p org) (if not (is_user_in p user) then Some UnknownUser else None) allowed
  where
    by : (there : Option Org) (rest : Option OrgFault)
        → IsTrue (is_none (if is_none there then Some UnknownOrg else rest)) → IsTrue (is_some there)
    by None rest h = absurd (cc)
    by (Some o) rest h = refl

pub RolesHaveOrgs-changed : (change : OrgChange) (p : PeopleLists) → IsTrue (is_none (org_fault change p))
    → RolesHaveOrgs p
    → RolesHaveOrgs (changed_people change p)
RolesHaveOrgs-changed (Create org) p allowed was = RolesHaveOrgs-with_org org p was
RolesHaveOrgs-changed (Patch org) p allowed was = RolesHaveOrgs-with_org org p was
RolesHaveOrgs-changed (Remove name) p allowed was = RolesHaveOrgs-without_org p name was
RolesHaveOrgs-changed (SetRole org user role) p allowed was =
    RolesHaveOrgs-with_role (record { org = org; user = user; role = role }) p
    (org_exists_where_set org user role p allowed) was
RolesHaveOrgs-changed (DropRole org user) p allowed was = RolesHaveOrgs-without_role p org user was

-- ---- changes one after the other

pub AreSorted-after : (changes : List OrgChange) (p : PeopleLists) → AreSorted p → AreSorted (people_after changes p)
AreSorted-after [] p was = was
AreSorted-after (change ∷ changes) p was =
    AreSorted-after changes (changed_people change p) (AreSorted-changed change p was)

pub RolesHaveOrgs-after : (changes : List OrgChange) (p : PeopleLists) → AreAllowed changes p → RolesHaveOrgs p
    → RolesHaveOrgs (people_after changes p)
RolesHaveOrgs-after [] p allowed was = was
RolesHaveOrgs-after (change ∷ changes) p allowed was =
    RolesHaveOrgs-after changes (changed_people change p) allowed.1 (RolesHaveOrgs-changed change p allowed.0 was)

-- ---- room

-- The condition on room, stated for the lists inside.
pub room_for_org : (os : List Org) (b : Bool) (kept : PeopleWithRoom) (o : Org) → os ≡ kept.people.orgs
    → b ≡ kept.room.org
    → (org_in kept.people o.name ≡ None → IsTrue kept.room.org) → found (λ other. org_cmp other o) os ≡ None → IsTrue b
room_for_org os b kept o orgs room needed none =
    room ∙ needed (org_found kept.people o.name ∙ ap (found (org_at o.name)) (sym orgs) ∙ none)

pub room_for_role : (ms : List Membership) (b : Bool) (kept : PeopleWithRoom) (m : Membership) → ms ≡ kept.people.roles
    → b ≡ kept.room.role → (role_in kept.people m.org m.user ≡ None → IsTrue kept.room.role)
    → found (λ other. membership_cmp other m) ms ≡ None → IsTrue b
room_for_role ms b kept m roles room needed none =
    room ∙ needed (role_found kept.people m.org m.user
    ∙ ap (λ (l : List Membership). option_map (λ n. n.role) (found (pair_at m.org m.user) l)) (sym roles)
    ∙ ap (option_map (λ n. n.role)) none)

-- ---- the roles that stay when an organization is removed

pub kept_roles : (name : List ℕ) (ms : List Membership)
    → filter (λ m. not (bytes_eq m.org name)) ms ≡ dropped (membership_in_org_at name) ms
kept_roles name ms = filter_agree _ _ (λ m. ap not (sym (is_eq-slice_cmp m.org name))) ms
