use Rattle.harvest_answers.proofs.Fitting.{job-only, show-only}
use Rattle.harvest_answers.proofs.laws.a_reading_accepts_nothing.Goals as goal

pub returns-clause-source_show : goal.returns-clause-source_show
returns-clause-source_show c = show-only (λ change. ⊥)

pub returns-clause-source_list : goal.returns-clause-source_list
returns-clause-source_list c = λ sources. tt

pub returns-clause-job_show : goal.returns-clause-job_show
returns-clause-job_show c = job-only (λ change. ⊥)
