-- A caller's view of the people and of the datasets.
use Rattle.std.specs.Prelude.{ℕ, List, map, filter, length, Bool, false, ◌&&◌, ◌||◌, Some}
use Rattle.std.specs.List.{list_any}
use Rattle.std.specs.Str.{bytes_eq}
use Rattle.portal_base.specs.declared.caller.Caller.{Caller}
use Rattle.portal_base.specs.declared.caller.Caller.TheVariants.{Anonymous, Named}
use Rattle.org_roles.specs.PeopleLists.{PeopleLists, is_sysadmin_in}
use Rattle.org_roles.specs.Rights.{rights_for}
use Rattle.org_roles.specs.declared.entry.Membership.{Membership}
use Rattle.org_roles.specs.declared.entry.User.{User}
use Rattle.packages.specs.Tags.{text_set}
use Rattle.packages.specs.declared.package.Package.{Package}
use Rattle.visibility.specs.Visibility.{caller_role, is_public, sees_in}

-- the caller is the user with this name
abbrev pub is_called : Caller → List ℕ → Bool
is_called Anonymous name = false
is_called (Named user) name = bytes_eq user name

-- the user's name; only the caller's own flag of a sysadmin is kept
abbrev pub user_seen : Caller → User → User
user_seen caller user = record { name = user.name; sysadmin = user.sysadmin && is_called caller user.name }

-- a sysadmin administers every organization, an admin its own
abbrev pub administers : PeopleLists → Caller → List ℕ → Bool
administers people caller org = is_sysadmin_in people caller || (rights_for (caller_role people caller org)).administer

-- the membership is the caller's own and makes it editor or admin
abbrev pub is_editing_role : Caller → Membership → Bool
is_editing_role caller role = is_called caller role.user && (rights_for (Some role.role)).edit

-- the caller is editor or admin of some organization
abbrev pub edits_somewhere : PeopleLists → Caller → Bool
edits_somewhere people caller = list_any (is_editing_role caller) people.roles

-- the caller sees all memberships of organizations that it administers, and elsewhere its own
abbrev pub is_role_seen : PeopleLists → Caller → Membership → Bool
is_role_seen people caller role = administers people caller role.org || is_called caller role.user

-- the people as the caller sees them; every organization is seen by everybody
abbrev pub people_seen : Caller → PeopleLists → PeopleLists
people_seen caller people = record {
  users = map (user_seen caller) people.users;
  orgs = people.orgs;
  roles = filter (is_role_seen people caller) people.roles;
}

-- the datasets that the caller sees, each with all its fields
abbrev pub datasets_seen : Caller → PeopleLists → List Package → List Package
datasets_seen caller people datasets = filter (sees_in people caller) datasets

-- the number of the organization's public datasets
abbrev pub public_count : List ℕ → List Package → ℕ
public_count org datasets = length (filter (λ d. bytes_eq d.owner_org org && is_public d) datasets)

-- the organization has a dataset, in any state
abbrev pub has_datasets : List ℕ → List Package → Bool
has_datasets org datasets = list_any (λ d. bytes_eq d.owner_org org) datasets

-- the names of the public datasets, each once, ascending
abbrev pub public_names : List Package → List (List ℕ)
public_names datasets = text_set (map (λ d. d.name) (filter is_public datasets))
