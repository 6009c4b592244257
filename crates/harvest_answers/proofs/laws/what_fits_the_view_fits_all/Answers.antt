use Rattle.harvest_answers.proofs.ViewLemmas.{fault_seen}
use Rattle.harvest_answers.proofs.laws.what_fits_the_view_fits_all.Goals as goal

pub returns-clause-update : goal.returns-clause-update
returns-clause-update c = λ caller people sources name title url up none. fault_seen caller people sources name up none

pub returns-clause-remove : goal.returns-clause-remove
returns-clause-remove c = λ caller people sources name up none. fault_seen caller people sources name up none

pub returns-clause-add_job : goal.returns-clause-add_job
returns-clause-add_job c = λ caller people sources name at up none. fault_seen caller people sources name up none
