-- By the view's lists of users and of roles.
use Rattle.portal_state.proofs.Disclosing.{names-same, flag-hidden, role-administered}
use Rattle.portal_core.proofs.laws.of_other_users_the_name_is_seen.Goals as goal

pub returns-clause-names : goal.returns-clause-names
returns-clause-names c = λ caller state. names-same caller state.people.users

pub returns-clause-flags : goal.returns-clause-flags
returns-clause-flags c = λ caller state. flag-hidden caller state.people.users

pub returns-clause-roles : goal.returns-clause-roles
returns-clause-roles c = λ caller state. role-administered caller state.people
