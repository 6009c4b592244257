-- The users with their tokens and the organizations with their roles, read from the tables of a portal file (TOML 1.1).
-- A reading is none if a key has a value of another kind or a name is absent. Keys that aren't named here are ignored.
use Rattle.std.specs.Prelude.{ℕ, pos, Bool, false, List, [], ◌∷◌, ◌++◌, codes, Option, Some, None, option_map}
use Rattle.std.specs.Prelude.{option_and_then}
use Rattle.org_roles.specs.declared.entry.Org.{Org}
use Rattle.portal_file.specs.declared.entries.NamedRole.{NamedRole}
use Rattle.portal_file.specs.declared.entries.Orgs.{Orgs}
use Rattle.portal_file.specs.declared.entries.Users.{Users}
use Rattle.toml.specs.Data.{Data, Items, no_items, item, Members, no_members, member, get_member, as_str, as_bool}
use Rattle.toml.specs.Data.{as_array, as_table}

-- ---- the values of keys

-- the text at a required key
abbrev pub text_at : List ℕ → Members → Option (List ℕ)
text_at key table = option_and_then as_str (get_member key table)

abbrev pub text_for : List ℕ → Option Data → Option (List ℕ)
text_for default None = Some default
text_for default (Some value) = as_str value

-- the text at a key, or the default if the key is absent
abbrev pub text_or : List ℕ → List ℕ → Members → Option (List ℕ)
text_or key default table = text_for default (get_member key table)

abbrev pub text_if : Option Data → Option (Option (List ℕ))
text_if None = Some None
text_if (Some value) = option_map (λ text. Some text) (as_str value)

-- the text at an optional key
abbrev pub optional_text : List ℕ → Members → Option (Option (List ℕ))
optional_text key table = text_if (get_member key table)

abbrev pub truth_for : Option Data → Option Bool
truth_for None = Some false
truth_for (Some value) = as_bool value

-- the truth value at a key, or false if the key is absent
abbrev pub truth_at : List ℕ → Members → Option Bool
truth_at key table = truth_for (get_member key table)

-- the readings of the items of a list, joined in order
abbrev pub read_items : {A : Type 0} → (A → A → A) → A → (Data → Option A) → Items → Option A
read_items join nothing read no_items = Some nothing
read_items join nothing read (item value rest) =
    option_and_then (λ first. option_map (join first) (read_items join nothing read rest)) (read value)

-- ---- users

-- a user's tokens: the digest of the one token, or none
abbrev pub tokens_of : List ℕ → Option (List ℕ) → List (List ℕ × List ℕ)
tokens_of name None = []
tokens_of name (Some digest) = (name, digest) ∷ []

-- one user, with the digest of their token where there is one
abbrev pub one_user : List ℕ → Bool → Option (List ℕ) → Users
one_user name sysadmin digest =
    record { users = record { name = name; sysadmin = sysadmin } ∷ []; tokens = tokens_of name digest }

-- the user of a table: `name`, `sysadmin`, `token_sha256`
abbrev pub user_in : Members → Option Users
user_in table = option_and_then
    (λ name. option_and_then
    (λ sysadmin. option_map (λ digest. one_user name sysadmin digest) (optional_text (codes "token_sha256") table))
    (truth_at (codes "sysadmin") table)) (text_at (codes "name") table)

abbrev pub no_users : Users
no_users = record { users = []; tokens = [] }

-- these users, and then the others
abbrev pub joined_users : Users → Users → Users
joined_users front back = record { users = front.users ++ back.users; tokens = front.tokens ++ back.tokens }

abbrev pub user_of : Data → Option Users
user_of value = option_and_then user_in (as_table value)

-- the users of a list of tables, in order
abbrev pub users_of : Items → Option Users
users_of items = read_items joined_users no_users user_of items

abbrev pub users_for : Option Data → Option Users
users_for None = Some no_users
users_for (Some value) = option_and_then users_of (as_array value)

-- the users of a file
abbrev pub users_in : Members → Option Users
users_in file = users_for (get_member (codes "user") file)

-- ---- organizations

abbrev pub named_role : List ℕ → List ℕ → List ℕ → NamedRole
named_role org user role = record { org = org; user = user; role = role }

-- the roles of an organization, by a table from user to role
abbrev pub roles_of : List ℕ → Members → Option (List NamedRole)
roles_of org no_members = Some []
roles_of org (member user value rest) = option_and_then
    (λ role. option_map (λ others. named_role org user role ∷ others) (roles_of org rest)) (as_str value)

abbrev pub roles_for : List ℕ → Option Data → Option (List NamedRole)
roles_for org None = Some []
roles_for org (Some value) = option_and_then (roles_of org) (as_table value)

-- the roles in the organization of this name
abbrev pub roles_in : List ℕ → Members → Option (List NamedRole)
roles_in org table = roles_for org (get_member (codes "roles") table)

-- the organization of a table: `name`, `title` (by default the name), `description` (by default empty); it is created
-- at 1970-01-01T00:00:00
abbrev pub org_in : Members → Option Org
org_in table = option_and_then
    (λ name. option_and_then
    (λ title. option_map
    (λ description. record { name = name; title = title; description = description; created = pos 0 })
    (text_or (codes "description") [] table)) (text_or (codes "title") name table)) (text_at (codes "name") table)

abbrev pub no_orgs : Orgs
no_orgs = record { orgs = []; roles = [] }

-- these organizations with their roles, and then the others
abbrev pub joined_orgs : Orgs → Orgs → Orgs
joined_orgs front back = record { orgs = front.orgs ++ back.orgs; roles = front.roles ++ back.roles }

abbrev pub one_org : Members → Option Orgs
one_org table = option_and_then
    (λ org. option_map (λ roles. record { orgs = org ∷ []; roles = roles }) (roles_in org.name table)) (org_in table)

-- the organization of a table with its roles
abbrev pub org_of : Data → Option Orgs
org_of value = option_and_then one_org (as_table value)

-- the organizations of a list of tables, in order
abbrev pub orgs_of : Items → Option Orgs
orgs_of items = read_items joined_orgs no_orgs org_of items

abbrev pub orgs_for : Option Data → Option Orgs
orgs_for None = Some no_orgs
orgs_for (Some value) = option_and_then orgs_of (as_array value)

-- the organizations of a file
abbrev pub orgs_in : Members → Option Orgs
orgs_in file = orgs_for (get_member (codes "organization") file)
