-- The people that are restored from lists, and the lists from which people can be restored.
use Rattle.std.specs.Prelude.{ℕ, Bool, ◌&&◌, List, map}
use Rattle.std.specs.List.{list_all}
use Rattle.portal_base.specs.Ordered.{ascending}
use Rattle.org_roles.specs.declared.role.Role.{Role}
use Rattle.org_roles.specs.declared.entry.User.{User}
use Rattle.org_roles.specs.declared.entry.Org.{Org}
use Rattle.org_roles.specs.declared.entry.Membership.{Membership}
use Rattle.org_roles.specs.Distinct.{is_org_name_among, have_distinct_org_names, have_distinct_pairs}
use Rattle.org_roles.specs.Order.{user_cmp, org_cmp, membership_cmp}
use Rattle.org_roles.specs.PeopleLists.{PeopleLists}

-- the memberships of these organizations, users and roles
abbrev pub memberships_of : List (List ℕ × List ℕ × Role) → List Membership
memberships_of roles = map (λ r. record { org = r.0; user = r.1; role = r.2 }) roles

-- No organization's name repeats, each role is in one of the organizations, and no pair of organization and user
-- repeats. A role's user may be any text.
abbrev pub is_restorable : List Org → List Membership → Bool
is_restorable orgs roles =
    have_distinct_org_names orgs && list_all (λ m. is_org_name_among orgs m.org) roles && have_distinct_pairs roles

-- the people of these lists, each sorted
abbrev pub people_of : List User → List Org → List Membership → PeopleLists
people_of users orgs roles = record {
  users = ascending user_cmp users;
  orgs = ascending org_cmp orgs;
  roles = ascending membership_cmp roles;
}
