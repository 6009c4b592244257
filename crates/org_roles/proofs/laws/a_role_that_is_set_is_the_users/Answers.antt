use Rattle.org_roles.proofs.ChangeLemmas.{role_in-with_role, role_in-with_role_other}
use Rattle.org_roles.proofs.laws.a_role_that_is_set_is_the_users.Goals as goal

pub returns-clause-role : goal.returns-clause-role
returns-clause-role c =
    λ people org user role. role_in-with_role (record { org = org; user = user; role = role }) people

pub returns-clause-others : goal.returns-clause-others
returns-clause-others c =
    λ people org user other_org other_user role unlike. role_in-with_role_other
    (record { org = org; user = user; role = role }) people other_org other_user unlike
