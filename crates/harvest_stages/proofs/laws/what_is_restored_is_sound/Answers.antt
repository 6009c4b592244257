use Rattle.harvest_stages.proofs.RestoringLaws.{made_jobs, made_order, made_rests, made_sound}
use Rattle.harvest_stages.proofs.laws.what_is_restored_is_sound.Goals as goal

pub returns-clause-sound : goal.returns-clause-sound
returns-clause-sound c = made_sound

pub returns-clause-rest : goal.returns-clause-rest
returns-clause-rest c = made_rests

pub returns-clause-order : goal.returns-clause-order
returns-clause-order c = made_order

pub returns-clause-jobs : goal.returns-clause-jobs
returns-clause-jobs c = made_jobs
