-- What else holds of a file that breaks no rule, so that a portal can be opened with it.
use Rattle.std.specs.Prelude.{Bool, IsTrue, nat_lt, length, List}
use Rattle.std.specs.List.{list_all}
use Rattle.org_roles.specs.Distinct.{have_distinct_org_names, have_distinct_pairs, is_org_name_among}
use Rattle.org_roles.specs.declared.entry.Membership.{Membership}
use Rattle.org_roles.specs.declared.entry.Org.{Org}
use Rattle.portal_file.specs.declared.entries.Orgs.{Orgs}
use Rattle.portal_file.specs.File.{memberships_of}

-- each organization has a name that isn't empty
abbrev pub are_named : List Org → Bool
are_named orgs = list_all (λ org. nat_lt 0 (length org.name)) orgs

-- each role is in an organization of the list
abbrev pub are_in_orgs : List Org → List Membership → Bool
are_in_orgs orgs roles = list_all (λ role. is_org_name_among orgs role.org) roles

-- Each role is in one of the organizations. If no two organizations have the same name, no pair of organization and
-- user occurs twice.
abbrev pub AreConsistent : Orgs → Type 0
AreConsistent o =
    IsTrue (are_in_orgs o.orgs (memberships_of o.roles))
    × (IsTrue (have_distinct_org_names o.orgs) → IsTrue (have_distinct_pairs (memberships_of o.roles)))
