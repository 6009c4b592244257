use Rattle.std.proofs.Common.{◌≢◌, All, [], subst}
use Rattle.portal_rows.specs.declared.org_reading.OrgWithRoles.{OrgWithRoles}
use Rattle.portal_core.proofs.RestoredPeople.{orgs_distinct, people_made, roles_distinct}
use Rattle.portal_core.proofs.restored_people.people_of_values.Goals as goal

pub of_lists-requires-clause-orgs : goal.of_lists-requires-clause-orgs
of_lists-requires-clause-orgs c =
    orgs_distinct c.args.kept c.in_ok-orgs.orgs c.requires.ascend c.in_ok-orgs.ensures.orgs

pub of_lists-requires-clause-roles : goal.of_lists-requires-clause-roles
of_lists-requires-clause-roles c =
    roles_distinct c.args.kept c.in_ok-orgs.roles c.requires.kept c.requires.ascend c.in_ok-orgs.ensures.roles

pub returns-clause-people : goal.returns-clause-people
returns-clause-people c =
    people_made c.args.kept c.args.users c.in_ok-orgs.orgs c.in_ok-orgs.roles c.of_lists.result.people c.requires.users
    c.requires.kept c.requires.ascend
    (subst (All (λ (o : OrgWithRoles). o.org.name ≢ [])) c.as_slice.ensures
    (c.are_named.ensures.0 c.if-not-are_named.false))
    c.in_ok-orgs.ensures.orgs c.in_ok-orgs.ensures.roles c.of_lists.ensures.users c.of_lists.ensures.orgs
    c.of_lists.ensures.roles
