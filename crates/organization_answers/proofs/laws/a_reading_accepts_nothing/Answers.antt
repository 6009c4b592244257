use Rattle.organization_answers.proofs.Fitting.{show-only, members-only, list-only}
use Rattle.organization_answers.proofs.laws.a_reading_accepts_nothing.Goals as goal

pub returns-clause-organization_show : goal.returns-clause-organization_show
returns-clause-organization_show c = show-only (λ change. ⊥)

pub returns-clause-organization_list : goal.returns-clause-organization_list
returns-clause-organization_list c = list-only (λ change. ⊥)

pub returns-clause-organization_list_for_user : goal.returns-clause-organization_list_for_user
returns-clause-organization_list_for_user c = λ view. tt

pub returns-clause-member_list : goal.returns-clause-member_list
returns-clause-member_list c = members-only (λ change. ⊥)

pub returns-clause-user_list : goal.returns-clause-user_list
returns-clause-user_list c = λ view. tt
