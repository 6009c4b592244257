use Rattle.std.proofs.Common.{◌∙◌}
use Rattle.org_roles.proofs.PeopleLemmas.{are_apart-orgs}
use Rattle.org_roles.proofs.people.org_names_are_distinct.Goals as goal

pub returns : goal.returns
returns c = c.are_apart.ensures ∙ are_apart-orgs c.args.orgs.now
