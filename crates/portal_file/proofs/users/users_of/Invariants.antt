use Rattle.std.proofs.Common.{◌≡◌, drop}
use Rattle.portal_file.proofs.TableLemmas.{Joins-users, so_far}
use Rattle.portal_file.specs.Tables.{joined_users, no_users, user_of, users_of}
use Rattle.portal_file.proofs.users.users_of.Given as goal
use Rattle.toml.specs.View.{items_view}

-- What was read and what is still to come say what all the items say.
abbrev pub invariant-loop-value : goal.invariant-loop-value
invariant-loop-value l =
    so_far joined_users no_users user_of Joins-users l.users (drop l.value-index l.items)
    ≡ users_of (items_view l.items)
