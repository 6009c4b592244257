use Rattle.std.proofs.Common.{◌≡◌, ◌++◌, drop}
use Rattle.portal_file.specs.File.{memberships_of}
use Rattle.portal_file.proofs.file.memberships_of.Given as goal

-- What was pushed, and the memberships of the roles still to come.
abbrev pub invariant-loop-named : goal.invariant-loop-named
invariant-loop-named l = l.memberships ++ memberships_of (drop l.named-index l.roles) ≡ memberships_of l.roles
