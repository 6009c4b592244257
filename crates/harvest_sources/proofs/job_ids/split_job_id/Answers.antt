use Rattle.harvest_sources.proofs.JobIds.{no_dot, split_at_dot}
use Rattle.harvest_sources.proofs.job_ids.split_job_id.Goals as goal

pub returns-in-Some : goal.returns-in-Some
returns-in-Some c = split_at_dot c.args.id.now c.in-Some.source.now c.in-Some.number.now c.in-Some.ensures.cases

pub returns-in-None : goal.returns-in-None
returns-in-None c = no_dot c.args.id.now c.in-None.ensures.cases
