-- What is restored from consistent lists, and that people are restored from their own lists.
use Rattle.std.proofs.Common.{◌≡◌, Bool, true, false, ◌&&◌, List, refl, sym, ◌∙◌}
use Rattle.std.specs.Prelude.{IsTrue, is_some}
use Rattle.std.specs.List.{list_all}
use Rattle.std.specs.Str.{bytes_eq}
use Rattle.portal_base.specs.Ordered.{ascending}
use Rattle.portal_base.proofs.Inserted.{list_any-ascending}
use Rattle.portal_base.proofs.Filtered.{is_some-find_any, list_all-IsIn, IsIn-list_all}
use Rattle.portal_base.proofs.Upserted.{All-each, All-IsIn, are_apart-IsAscending, ascending-same}
use Rattle.portal_base.proofs.Unique.{ascending-IsIn}
use Rattle.org_roles.specs.declared.entry.User.{User}
use Rattle.org_roles.specs.declared.entry.Org.{Org}
use Rattle.org_roles.specs.declared.entry.Membership.{Membership}
use Rattle.org_roles.specs.Distinct.{have_distinct_names, have_distinct_org_names, have_distinct_pairs}
use Rattle.org_roles.specs.Distinct.{is_org_name_among}
use Rattle.org_roles.specs.Order.{user_cmp, org_cmp, membership_cmp}
use Rattle.org_roles.specs.Order.{user_cmp_total, org_cmp_total, membership_cmp_total}
use Rattle.org_roles.specs.PeopleLists.{PeopleLists, AreSorted, RolesHaveOrgs, org_in}
use Rattle.org_roles.specs.Restored.{is_restorable, people_of}
use Rattle.org_roles.proofs.PeopleLemmas.{AreSorted-ascending, are_apart-users, are_apart-orgs, are_apart-roles}

-- a conjunction of three holds exactly if each holds
all_three : (a b c : Bool) → (a && b && c) ≡ true → (a ≡ true) × (b ≡ true) × (c ≡ true)
all_three true true c h = (refl, refl, h)
all_three true false c h = absurd (cc)
all_three false b c h = absurd (cc)

three : (a b c : Bool) → a ≡ true → b ≡ true → c ≡ true → (a && b && c) ≡ true
three a b c x y z = rw (x, y, z) refl

-- the three conditions on the lists
abbrev Fit : List Org → List Membership → Type 0
Fit orgs roles = (have_distinct_org_names orgs ≡ true)
    × (list_all (λ m. is_org_name_among orgs m.org) roles ≡ true) × (have_distinct_pairs roles ≡ true)

parts : (orgs : List Org) (roles : List Membership) → IsTrue (is_restorable orgs roles) → Fit orgs roles
parts orgs roles fit = all_three (have_distinct_org_names orgs) _ (have_distinct_pairs roles) fit

pub AreSorted-restored : (users : List User) (orgs : List Org) (roles : List Membership)
    → IsTrue (have_distinct_names users) → IsTrue (is_restorable orgs roles) → AreSorted (people_of users orgs roles)
AreSorted-restored users orgs roles names fit =
    let both = parts orgs roles fit in
    AreSorted-ascending users _ orgs _ roles _ names both.0 both.2 refl refl refl

-- The organization of each role is among the sorted organizations.
pub RolesHaveOrgs-restored : (users : List User) (orgs : List Org) (roles : List Membership)
    → IsTrue (is_restorable orgs roles) → RolesHaveOrgs (people_of users orgs roles)
RolesHaveOrgs-restored users orgs roles fit =
    All-each (λ (m : Membership). IsTrue (is_some (org_in (people_of users orgs roles) m.org)))
    (ascending membership_cmp roles)
    (λ m is_in. is_some-find_any (λ o. bytes_eq o.name m.org) (ascending org_cmp orgs)
    ∙ list_any-ascending org_cmp (λ o. bytes_eq o.name m.org) orgs
    ∙ list_all-IsIn (λ n. is_org_name_among orgs n.org) roles (parts orgs roles fit).1 m
    (ascending-IsIn membership_cmp m roles is_in))

pub distinct_names : (p : PeopleLists) → AreSorted p → IsTrue (have_distinct_names p.users)
distinct_names p was = sym (are_apart-users p.users) ∙ are_apart-IsAscending user_cmp user_cmp_total p.users was.users

pub restorable : (p : PeopleLists) → AreSorted p → RolesHaveOrgs p → IsTrue (is_restorable p.orgs p.roles)
restorable p was with_orgs =
    three (have_distinct_org_names p.orgs) (list_all (λ m. is_org_name_among p.orgs m.org) p.roles)
    (have_distinct_pairs p.roles)
    (sym (are_apart-orgs p.orgs) ∙ are_apart-IsAscending org_cmp org_cmp_total p.orgs was.orgs)
    (IsIn-list_all (λ m. is_org_name_among p.orgs m.org) p.roles
    (λ m is_in. sym (is_some-find_any (λ o. bytes_eq o.name m.org) p.orgs)
    ∙ All-IsIn (λ (n : Membership). IsTrue (is_some (org_in p n.org))) p.roles with_orgs m is_in))
    (sym (are_apart-roles p.roles) ∙ are_apart-IsAscending membership_cmp membership_cmp_total p.roles was.roles)

pub restored : (p : PeopleLists) → AreSorted p → people_of p.users p.orgs p.roles ≡ p
restored p was =
    rw (
      ascending-same user_cmp user_cmp_total p.users was.users,
      ascending-same org_cmp org_cmp_total p.orgs was.orgs,
      ascending-same membership_cmp membership_cmp_total p.roles was.roles,
    ) refl
