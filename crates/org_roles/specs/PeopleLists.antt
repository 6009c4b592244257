-- The people of a portal: its users, its organizations and the roles of users in organizations.
use Rattle.std.specs.Prelude.{ℕ, Bool, false, ◌&&◌, IsTrue, List, Option, is_some}
use Rattle.std.specs.List.{list_any, find, All}
use Rattle.std.specs.Option.{option_map}
use Rattle.std.specs.Str.{bytes_eq}
use Rattle.portal_base.specs.declared.caller.Caller.{Caller}
use Rattle.portal_base.specs.declared.caller.Caller.TheVariants.{Anonymous, Named}
use Rattle.org_roles.specs.declared.role.Role.{Role}
use Rattle.org_roles.specs.declared.entry.User.{User}
use Rattle.org_roles.specs.declared.entry.Org.{Org}
use Rattle.org_roles.specs.declared.entry.Membership.{Membership}
use Rattle.portal_base.specs.Ordered.{IsAscending}
use Rattle.org_roles.specs.Distinct.{is_name_among}
use Rattle.org_roles.specs.Order.{user_cmp, org_cmp, membership_cmp}

-- the users and the organizations, each ordered by name, and the roles, ordered by organization and user
pub record PeopleLists : Type 0 where
  pub users : List User
  pub orgs : List Org
  pub roles : List Membership

-- Each list strictly ascends, so that no name and no pair of organization and user repeats.
pub record AreSorted (p : PeopleLists) : Type 0 where
  pub users : IsAscending user_cmp p.users
  pub orgs : IsAscending org_cmp p.orgs
  pub roles : IsAscending membership_cmp p.roles

-- whether there is room for one more organization, and for one more role
pub record Room : Type 0 where
  pub org : Bool
  pub role : Bool

-- the people, and the room for more
pub record PeopleWithRoom : Type 0 where
  pub people : PeopleLists
  pub room : Room

-- whether a user has that name
abbrev pub is_user_in : PeopleLists → List ℕ → Bool
is_user_in p name = is_name_among p.users name

-- the organization of that name
abbrev pub org_in : PeopleLists → List ℕ → Option Org
org_in p name = find (λ o. bytes_eq o.name name) p.orgs

-- each role is in an organization that exists
abbrev pub RolesHaveOrgs : PeopleLists → Type 0
RolesHaveOrgs p = All (λ m. IsTrue (is_some (org_in p m.org))) p.roles

-- the membership of that user in that organization
abbrev pub membership_in : PeopleLists → List ℕ → List ℕ → Option Membership
membership_in p org user = find (λ m. bytes_eq m.org org && bytes_eq m.user user) p.roles

-- the role of that user in that organization
abbrev pub role_in : PeopleLists → List ℕ → List ℕ → Option Role
role_in p org user = option_map (λ m. m.role) (membership_in p org user)

-- whether the caller is a user who is a sysadmin
abbrev pub is_sysadmin_in : PeopleLists → Caller → Bool
is_sysadmin_in p Anonymous = false
is_sysadmin_in p (Named name) = list_any (λ u. bytes_eq u.name name && u.sysadmin) p.users
