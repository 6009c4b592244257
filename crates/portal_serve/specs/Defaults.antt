-- The default portal, with which a run begins where no portal file is named.
use Rattle.std.specs.Prelude.{ℕ, List, [], ◌∷◌, ◌++◌, map, Bool, true, false, codes, pos}
use Rattle.org_roles.specs.declared.entry.User.{User}
use Rattle.org_roles.specs.declared.entry.Org.{Org}
use Rattle.org_roles.specs.declared.entry.Membership.{Membership}
use Rattle.org_roles.specs.declared.role.Role.{Role}
use Rattle.org_roles.specs.declared.role.Role.TheVariants.{Member, Editor, Admin}
use Rattle.portal_state.specs.State.{State}
use Rattle.portal_state.specs.declared.opening.Opening.{Opening}
use Rattle.portal_links.specs.Tokens.{Digests, digest_of}

abbrev pub a_user : List ℕ → Bool → User
a_user name sysadmin = record { name = name; sysadmin = sysadmin }

abbrev pub city_role : List ℕ → Role → Membership
city_role user role = record { org = codes "city"; user = user; role = role }

-- ann, bob, cyn and dan, and root, who is a sysadmin
abbrev pub default_users : List User
default_users =
    a_user (codes "ann") false ∷ a_user (codes "bob") false ∷ a_user (codes "cyn") false ∷ a_user (codes "dan") false
    ∷ a_user (codes "root") true ∷ []

-- the organization `city`, made at 1970-01-01T00:00:00
abbrev pub default_org : Org
default_org = record { name = codes "city"; title = codes "City"; description = []; created = pos 0 }

-- ann edits, bob is a member, cyn administers
abbrev pub default_roles : List Membership
default_roles = city_role (codes "ann") Editor ∷ city_role (codes "bob") Member ∷ city_role (codes "cyn") Admin ∷ []

-- what the default portal is opened with
abbrev pub default_opening : Opening
default_opening = record { users = default_users; orgs = default_org ∷ []; roles = default_roles }

-- The state before the first line of a script: these people, no dataset, no table, and nothing accepted.
abbrev pub default_state : State
default_state = record {
  people = record { users = default_users; orgs = default_org ∷ []; roles = default_roles };
  datasets = [];
  tables = [];
  sources = [];
  quota_used = [];
}

-- a user's token is `token-` and the name
abbrev pub default_digest : User → List ℕ × List ℕ
default_digest user = (user.name, digest_of (codes "token-" ++ user.name))

-- the digests of their tokens
abbrev pub default_digests : Digests
default_digests = map default_digest default_users
