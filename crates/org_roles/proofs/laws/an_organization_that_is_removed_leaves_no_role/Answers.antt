use Rattle.org_roles.proofs.ChangeLemmas.{org_in-without_org, org_in-without_org_other, without_org-roles}
use Rattle.org_roles.proofs.ChangeLemmas.{role_in-without_org}
use Rattle.org_roles.proofs.laws.an_organization_that_is_removed_leaves_no_role.Goals as goal

pub returns-clause-gone : goal.returns-clause-gone
returns-clause-gone c = λ people name. org_in-without_org people name

pub returns-clause-roles : goal.returns-clause-roles
returns-clause-roles c = λ people name. without_org-roles people name

pub returns-clause-others : goal.returns-clause-others
returns-clause-others c = λ people name other unlike. org_in-without_org_other people name other unlike

pub returns-clause-other_roles : goal.returns-clause-other_roles
returns-clause-other_roles c = λ people name other user unlike. role_in-without_org people name other user unlike
