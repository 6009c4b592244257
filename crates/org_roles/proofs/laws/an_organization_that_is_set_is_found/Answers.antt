use Rattle.org_roles.proofs.ChangeLemmas.{org_in-with_org, org_in-with_org_other}
use Rattle.org_roles.proofs.laws.an_organization_that_is_set_is_found.Goals as goal

pub returns-clause-created : goal.returns-clause-created
returns-clause-created c = λ people org. org_in-with_org org people

pub returns-clause-patched : goal.returns-clause-patched
returns-clause-patched c = λ people org. org_in-with_org org people

pub returns-clause-others_at_creation : goal.returns-clause-others_at_creation
returns-clause-others_at_creation c = λ people org other unlike. org_in-with_org_other org people other unlike

pub returns-clause-others_at_patch : goal.returns-clause-others_at_patch
returns-clause-others_at_patch c = λ people org other unlike. org_in-with_org_other org people other unlike
