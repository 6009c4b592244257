-- The openings of a portal, and the state that an opening makes.
use Rattle.std.specs.Prelude.{◌&&◌, Bool, nat_lt, length, List, []}
use Rattle.std.specs.List.{list_all, list_any}
use Rattle.std.specs.Str.{bytes_eq}
use Rattle.portal_base.specs.Ordered.{ascending}
use Rattle.org_roles.specs.Distinct.{have_distinct_names, have_distinct_org_names, have_distinct_pairs}
use Rattle.org_roles.specs.Order.{user_cmp, org_cmp, membership_cmp}
use Rattle.org_roles.specs.declared.entry.Membership.{Membership}
use Rattle.org_roles.specs.declared.entry.Org.{Org}
use Rattle.portal_state.specs.State.{State}
use Rattle.portal_state.specs.declared.opening.Opening.{Opening}

-- each organization has a name that isn't empty
abbrev pub are_named : List Org → Bool
are_named orgs = list_all (λ org. nat_lt 0 (length org.name)) orgs

-- each role is one in an organization of the list
abbrev pub have_orgs : List Org → List Membership → Bool
have_orgs orgs roles = list_all (λ role. list_any (λ org. bytes_eq org.name role.org) orgs) roles

-- No two users and no two organizations have one name, no organization's name is empty, each role names one of the
-- organizations, and no pair of organization and user comes twice.
abbrev pub is_opening : Opening → Bool
is_opening opening =
    have_distinct_names opening.users && have_distinct_org_names opening.orgs && have_distinct_pairs opening.roles
    && are_named opening.orgs && have_orgs opening.orgs opening.roles

-- the users, organizations and roles of the opening, each list in its order, no dataset, no table, no source, and nothing
-- accepted
abbrev pub opened : Opening → State
opened opening = record {
  people = record {
    users = ascending user_cmp opening.users;
    orgs = ascending org_cmp opening.orgs;
    roles = ascending membership_cmp opening.roles;
  };
  datasets = [];
  tables = [];
  sources = [];
  quota_used = [];
}
