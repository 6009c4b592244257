use Rattle.org_roles.proofs.ChangeLemmas.{users-changed, AreSorted-after, RolesHaveOrgs-after}
use Rattle.org_roles.proofs.laws.changes_that_are_allowed_keep_the_rules.Goals as goal

pub returns-clause-users : goal.returns-clause-users
returns-clause-users c = λ people change. users-changed change people

pub returns-clause-ordered : goal.returns-clause-ordered
returns-clause-ordered c = λ people changes was. AreSorted-after changes people was

pub returns-clause-roles_have_orgs : goal.returns-clause-roles_have_orgs
returns-clause-roles_have_orgs c = λ people changes allowed was. RolesHaveOrgs-after changes people allowed was
