use Rattle.std.proofs.Common.{◌∙◌}
use Rattle.org_roles.proofs.PeopleLemmas.{AreSorted-ascending, are_apart-users, are_apart-orgs, are_apart-roles}
use Rattle.org_roles.proofs.people.People.of_lists.Goals as goal

pub sorted-requires : goal.sorted-requires
sorted-requires c = are_apart-users c.args.users ∙ c.requires.users

pub sorted-requires-2 : goal.sorted-requires-2
sorted-requires-2 c = are_apart-orgs c.args.orgs ∙ c.requires.orgs

pub sorted-requires-3 : goal.sorted-requires-3
sorted-requires-3 c = are_apart-roles c.args.roles ∙ c.requires.roles

pub invariant_of-result : goal.invariant_of-result
invariant_of-result c =
    AreSorted-ascending c.args.users _ c.args.orgs _ c.args.roles _ c.requires.users c.requires.orgs c.requires.roles
    c.sorted.ensures c.sorted-2.ensures c.sorted-3.ensures
