use Rattle.harvest_stages.proofs.GroupLemmas.{put_got}
use Rattle.harvest_stages.proofs.groups.put_job.Goals as goal

pub returns-clause-put : goal.returns-clause-put
returns-clause-put c = λ yes.
    put_got c.args.groups.now.items c.as_slice.result.now c.args.job c.in-Some.place c.put_last.new.groups.items
    c.as_slice.ensures.value c.requires c.in-Some.ensures c.in_ok-put_last.ensures
