use Rattle.org_roles.proofs.ChangeLemmas.{role_in-without_role, role_in-without_role_other}
use Rattle.org_roles.proofs.laws.a_role_that_is_dropped_is_gone.Goals as goal

pub returns-clause-role : goal.returns-clause-role
returns-clause-role c = λ people org user. role_in-without_role people org user

pub returns-clause-others : goal.returns-clause-others
returns-clause-others c =
    λ people org user other_org other_user unlike.
    role_in-without_role_other people org user other_org other_user unlike
