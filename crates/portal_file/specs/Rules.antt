-- The rules of a portal file after the first one. Each one is about the whole file.
use Rattle.std.specs.Prelude.{ℕ, ◌==◌, nat_le, Bool, true, not, ◌&&◌, ◌||◌, if◌then◌else◌, List, [], ◌∷◌, length, codes}
use Rattle.std.specs.Prelude.{Option, Some, None, is_some}
use Rattle.std.specs.List.{list_all, list_any}
use Rattle.std.specs.Str.{bytes_eq}
use Rattle.portal_base.specs.Name.{has_name_length, has_name_characters}
use Rattle.org_roles.specs.Distinct.{is_name_among, have_distinct_names, have_distinct_org_names}
use Rattle.org_roles.specs.declared.role.Role.{Role}
use Rattle.org_roles.specs.declared.role.Role.TheVariants as role
use Rattle.org_roles.specs.declared.entry.User.{User}
use Rattle.org_roles.specs.declared.entry.Org.{Org}
use Rattle.portal_file.specs.declared.entries.NamedRole.{NamedRole}
use Rattle.portal_file.specs.declared.entries.Orgs.{Orgs}
use Rattle.portal_file.specs.declared.entries.Users.{Users}
use Rattle.portal_file.specs.declared.rule.FileRule.{FileRule}
use Rattle.portal_file.specs.declared.rule.FileRule.TheVariants as rule

-- Names have 2 to 100 of the characters of names. Reserved names are allowed in a file.
abbrev pub is_file_name : List ℕ → Bool
is_file_name text = has_name_length text 100 && has_name_characters text

abbrev pub have_file_names : List User → Bool
have_file_names users = list_all (λ user. is_file_name user.name) users

abbrev pub have_org_file_names : List Org → Bool
have_org_file_names orgs = list_all (λ org. is_file_name org.name) orgs

-- a hexadecimal digit in lower case
abbrev pub is_digest_digit : ℕ → Bool
is_digest_digit c = (nat_le 48 c && nat_le c 57) || (nat_le 97 c && nat_le c 102)

-- the form of a SHA-256 digest (FIPS 180-4): 64 of them
abbrev pub is_digest : List ℕ → Bool
is_digest text = (length text == 64) && list_all is_digest_digit text

abbrev pub have_digests : List (List ℕ × List ℕ) → Bool
have_digests tokens = list_all (λ token. is_digest token.1) tokens

-- one of the tokens has this digest
abbrev pub is_digest_among : List (List ℕ × List ℕ) → List ℕ → Bool
is_digest_among tokens digest = list_any (λ token. bytes_eq token.1 digest) tokens

-- no token's digest is that of a later one
abbrev pub have_distinct_digests : List (List ℕ × List ℕ) → Bool
have_distinct_digests [] = true
have_distinct_digests (token ∷ tokens) = not (is_digest_among tokens token.1) && have_distinct_digests tokens

-- the role of that name
abbrev pub role_named : List ℕ → Option Role
role_named text =
    if bytes_eq text (codes "member") then Some role.Member
    else if bytes_eq text (codes "editor") then Some role.Editor
    else if bytes_eq text (codes "admin") then Some role.Admin
    else None

-- the role has a known name, and its user is in the file
abbrev pub is_role_among : List User → NamedRole → Bool
is_role_among users r = is_some (role_named r.role) && is_name_among users r.user

abbrev pub are_roles_among : List User → List NamedRole → Bool
are_roles_among users roles = list_all (is_role_among users) roles

-- the first broken rule of those on organizations
abbrev pub broken_org_rule : Users → Orgs → Option FileRule
broken_org_rule users orgs =
    if not (have_org_file_names orgs.orgs) then Some rule.OrganizationName
    else if not (have_distinct_org_names orgs.orgs) then Some rule.RepeatedOrganization
    else if not (are_roles_among users.users orgs.roles) then Some rule.Role
    else None

-- the first broken rule, of those after `toml`
abbrev pub broken_rule : Users → Orgs → Option FileRule
broken_rule users orgs =
    if not (have_file_names users.users) then Some rule.UserName
    else if not (have_distinct_names users.users) then Some rule.RepeatedUser
    else if not (have_digests users.tokens) then Some rule.Token
    else if not (have_distinct_digests users.tokens) then Some rule.RepeatedToken
    else broken_org_rule users orgs

-- the name of a rule in messages
abbrev pub rule_name : FileRule → List ℕ
rule_name rule.Toml = codes "toml"
rule_name rule.UserName = codes "user name"
rule_name rule.RepeatedUser = codes "repeated user"
rule_name rule.Token = codes "token"
rule_name rule.RepeatedToken = codes "repeated token"
rule_name rule.OrganizationName = codes "organization name"
rule_name rule.RepeatedOrganization = codes "repeated organization"
rule_name rule.Role = codes "role"
