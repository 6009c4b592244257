-- The contents of a portal file (TOML 1.1), or the first rule that it breaks.
use Rattle.std.specs.Prelude.{ℕ, if◌then◌else◌, List, [], ◌∷◌, ◌++◌, Option, Some, None, Result, Ok, Err}
use Rattle.std.specs.Str.{is_utf8}
use Rattle.org_roles.specs.declared.role.Role.{Role}
use Rattle.org_roles.specs.declared.entry.Membership.{Membership}
use Rattle.portal_file.specs.declared.entries.NamedRole.{NamedRole}
use Rattle.portal_file.specs.declared.entries.Orgs.{Orgs}
use Rattle.portal_file.specs.declared.entries.Users.{Users}
use Rattle.portal_file.specs.declared.file.PortalFile.{PortalFile}
use Rattle.portal_file.specs.declared.rule.FileRule.{FileRule}
use Rattle.portal_file.specs.declared.rule.FileRule.TheVariants.{Toml}
use Rattle.portal_file.specs.declared.rule.FileFault.{FileFault}
use Rattle.portal_file.specs.declared.rule.FileFault.TheVariants.{Rule, OutOfMemory}
use Rattle.portal_file.specs.declared.rule.TableFault.{TableFault}
use Rattle.portal_file.specs.declared.rule.TableFault.TheVariants as fault
use Rattle.portal_file.specs.Rules.{broken_rule, role_named}
use Rattle.portal_file.specs.Tables.{users_in, orgs_in}
use Rattle.toml.specs.Data.{Members}
use Rattle.toml.specs.Parse.{parse_document}

-- the membership of a role whose name is known
abbrev pub membership_for : NamedRole → Option Role → List Membership
membership_for r None = []
membership_for r (Some role) = record { org = r.org; user = r.user; role = role } ∷ []

abbrev pub memberships_of : List NamedRole → List Membership
memberships_of [] = []
memberships_of (r ∷ rs) = membership_for r (role_named r.role) ++ memberships_of rs

-- the file of these users and organizations, or the rule that they break
abbrev pub file_if : Option FileRule → Users → Orgs → Result PortalFile FileRule
file_if (Some rule) users orgs = Err rule
file_if None users orgs = Ok (record {
  users = users.users;
  orgs = orgs.orgs;
  roles = memberships_of orgs.roles;
  tokens = users.tokens;
})

abbrev pub file_with : Users → Orgs → Result PortalFile FileRule
file_with users orgs = file_if (broken_rule users orgs) users orgs

abbrev pub file_with_users : Option Users → Option Orgs → Result PortalFile FileRule
file_with_users (Some users) (Some orgs) = file_with users orgs
file_with_users (Some users) None = Err Toml
file_with_users None orgs = Err Toml

abbrev pub file_of_tables : Option Members → Result PortalFile FileRule
file_of_tables None = Err Toml
file_of_tables (Some file) = file_with_users (users_in file) (orgs_in file)

-- the file that the bytes are, or the first rule that they break
abbrev pub file_of : List ℕ → Result PortalFile FileRule
file_of bytes = if is_utf8 bytes then file_of_tables (parse_document bytes) else Err Toml

-- the fault of a file whose tables have this fault
abbrev pub file_fault_of : TableFault → FileFault
file_fault_of fault.Kind = Rule Toml
file_fault_of fault.OutOfMemory = OutOfMemory
