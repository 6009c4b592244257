use Rattle.std.proofs.Common.{◌∙◌}
use Rattle.org_roles.proofs.PeopleLemmas.{are_apart-roles}
use Rattle.org_roles.proofs.people.pairs_are_distinct.Goals as goal

pub returns : goal.returns
returns c = c.are_apart.ensures ∙ are_apart-roles c.args.roles.now
