use Rattle.std.proofs.Common.{◌∙◌}
use Rattle.org_roles.proofs.PeopleLemmas.{are_apart-users}
use Rattle.org_roles.proofs.people.names_are_distinct.Goals as goal

pub returns : goal.returns
returns c = c.are_apart.ensures ∙ are_apart-users c.args.users.now
