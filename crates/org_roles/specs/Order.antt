-- The orders of users, organizations and memberships: by their names' bytes.
use Rattle.std.specs.Prelude.{ℕ, List}
use Rattle.std.specs.declared.cmp.Ordering.{Ordering}
use Rattle.std.specs.Ordering.{nat_cmp, ordering_then}
use Rattle.std.specs.Cmp.{IsTotalOrder}
use Rattle.std.specs.Cmp.Lexicographic.{slice_cmp}
use Rattle.std.proofs.lemmas.Cmp.{on_total, then_total, nat_list_cmp_total}
use Rattle.org_roles.specs.declared.entry.User.{User}
use Rattle.org_roles.specs.declared.entry.Org.{Org}
use Rattle.org_roles.specs.declared.entry.Membership.{Membership}
use Rattle.portal_base.specs.Ordered.{ascending, IsKey, IsKey-field, IsMonotone, IsMonotone-field}
use Rattle.org_roles.specs.declared.role.Role.TheVariants.{Member}

-- by name
abbrev pub user_cmp : User → User → Ordering
user_cmp u v = slice_cmp nat_cmp u.name v.name

-- by name
abbrev pub org_cmp : Org → Org → Ordering
org_cmp o p = slice_cmp nat_cmp o.name p.name

-- by organization, then by user
abbrev pub membership_cmp : Membership → Membership → Ordering
membership_cmp m n = ordering_then (slice_cmp nat_cmp m.org n.org) (slice_cmp nat_cmp m.user n.user)

-- the order of a user's name against this name
abbrev pub user_at : List ℕ → User → Ordering
user_at name u = slice_cmp nat_cmp u.name name

-- the order of an organization's name against this name
abbrev pub org_at : List ℕ → Org → Ordering
org_at name o = slice_cmp nat_cmp o.name name

-- the order of a membership's organization against this organization
abbrev pub membership_in_org_at : List ℕ → Membership → Ordering
membership_in_org_at org m = slice_cmp nat_cmp m.org org

-- the order of a membership's pair of organization and user against this pair
abbrev pub pair_at : List ℕ → List ℕ → Membership → Ordering
pair_at org user m = ordering_then (slice_cmp nat_cmp m.org org) (slice_cmp nat_cmp m.user user)

-- a membership of that organization and user
abbrev membership_of : List ℕ → List ℕ → Membership
membership_of org user = record { org = org; user = user; role = Member }

-- the users by name
abbrev pub users_ascending : List User → List User
users_ascending us = ascending user_cmp us

-- The orders are total.
pub user_cmp_total : IsTotalOrder user_cmp
user_cmp_total = on_total (λ u. u.name) nat_list_cmp_total

pub org_cmp_total : IsTotalOrder org_cmp
org_cmp_total = on_total (λ o. o.name) nat_list_cmp_total

pub membership_cmp_total : IsTotalOrder membership_cmp
membership_cmp_total =
    then_total (on_total (λ m. m.org) nat_list_cmp_total) (on_total (λ m. m.user) nat_list_cmp_total)

-- A user and an organization are looked up by their name, and a membership by its pair.
pub IsKey-user_at : (name : List ℕ) → IsKey user_cmp (user_at name)
IsKey-user_at name = IsKey-field (λ u. u.name) nat_list_cmp_total name

pub IsKey-org_at : (name : List ℕ) → IsKey org_cmp (org_at name)
IsKey-org_at name = IsKey-field (λ o. o.name) nat_list_cmp_total name

pub IsKey-pair_at : (org user : List ℕ) → IsKey membership_cmp (pair_at org user)
IsKey-pair_at org user = IsKey-field (λ m. m) membership_cmp_total (membership_of org user)

pub IsMonotone-user_at : (name : List ℕ) → IsMonotone user_cmp (user_at name)
IsMonotone-user_at name = IsMonotone-field (λ u. u.name) nat_list_cmp_total name

pub IsMonotone-org_at : (name : List ℕ) → IsMonotone org_cmp (org_at name)
IsMonotone-org_at name = IsMonotone-field (λ o. o.name) nat_list_cmp_total name

pub IsMonotone-pair_at : (org user : List ℕ) → IsMonotone membership_cmp (pair_at org user)
IsMonotone-pair_at org user = IsMonotone-field (λ m. m) membership_cmp_total (membership_of org user)
