-- What each role may do with the datasets of its organization.
use Rattle.std.specs.Prelude.{true, false, Option, Some, None}
use Rattle.org_roles.specs.declared.role.Role.{Role}
use Rattle.org_roles.specs.declared.role.Role.TheVariants.{Member, Editor, Admin}
use Rattle.org_roles.specs.declared.role.Rights.{Rights}

-- Any role sees private datasets, editors and admins edit, and admins administer.
abbrev pub rights_for : Option Role → Rights
rights_for None = record { see_private = false; edit = false; administer = false }
rights_for (Some Member) = record { see_private = true; edit = false; administer = false }
rights_for (Some Editor) = record { see_private = true; edit = true; administer = false }
rights_for (Some Admin) = record { see_private = true; edit = true; administer = true }
