use Rattle.std.proofs.Common.{◌≡◌, ◌++◌, option_map}
use Rattle.portal_file.specs.Tables.{roles_of}
use Rattle.portal_file.proofs.orgs.roles_of.Given as goal
use Rattle.toml.specs.View.{members_view}

-- What was pushed, and the roles of the entries still to come.
abbrev pub invariant-loop-user : goal.invariant-loop-user
invariant-loop-user l =
    option_map (λ more. l.roles ++ more) (roles_of l.org (members_view l.user-iterator))
    ≡ roles_of l.org (members_view l.table.entries)
