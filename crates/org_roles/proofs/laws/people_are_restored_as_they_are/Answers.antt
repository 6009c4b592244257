use Rattle.org_roles.proofs.RestoreLemmas.{AreSorted-restored, RolesHaveOrgs-restored, distinct_names}
use Rattle.org_roles.proofs.RestoreLemmas.{restorable, restored}
use Rattle.org_roles.proofs.laws.people_are_restored_as_they_are.Goals as goal

pub returns-clause-ordered : goal.returns-clause-ordered
returns-clause-ordered c = λ users orgs roles names fit. AreSorted-restored users orgs roles names fit

pub returns-clause-roles_have_orgs : goal.returns-clause-roles_have_orgs
returns-clause-roles_have_orgs c = λ users orgs roles fit. RolesHaveOrgs-restored users orgs roles fit

pub returns-clause-distinct : goal.returns-clause-distinct
returns-clause-distinct c = λ people was. distinct_names people was

pub returns-clause-restorable : goal.returns-clause-restorable
returns-clause-restorable c = λ people was with_orgs. restorable people was with_orgs

pub returns-clause-same : goal.returns-clause-same
returns-clause-same c = λ people was. restored people was
