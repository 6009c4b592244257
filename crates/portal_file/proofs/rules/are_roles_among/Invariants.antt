use Rattle.std.proofs.Common.{◌≡◌, drop}
use Rattle.portal_file.specs.Rules.{are_roles_among}
use Rattle.portal_file.proofs.rules.are_roles_among.Given as goal

-- All roles are among the users exactly if the roles still to come are.
abbrev pub invariant-loop-role : goal.invariant-loop-role
invariant-loop-role l = are_roles_among l.users l.roles ≡ are_roles_among l.users (drop l.role-index l.roles)
