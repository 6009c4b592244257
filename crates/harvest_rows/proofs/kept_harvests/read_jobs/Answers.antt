use Rattle.harvest_rows.specs.Rows.{IsJobRow}
use Rattle.harvest_rows.proofs.ListLemmas.{reads-all, reads-more, reads-none, reads-refused}
use Rattle.harvest_rows.proofs.kept_harvests.read_jobs.Goals as goal

pub loop-row-init : goal.loop-row-init
loop-row-init c = rw c.in_ok-jobs.ensures.items (reads-none IsJobRow c.args.rows.now)

pub loop-row-preserved : goal.loop-row-preserved
loop-row-preserved c =
    rw c.in_ok-push.ensures.items
    (reads-more IsJobRow c.loop-row.jobs.items c.args.rows.now c.loop-row.row-index c.row-item.result
    c.in_ok-job.field-0 c.in-Some.job c.loop-row.invariant c.loop-row-test.true c.row-item.is
    c.in_ok-job.ensures c.in-Some.is)

pub returns-in_default : goal.returns-in_default
returns-in_default c =
    reads-refused IsJobRow c.loop-row.jobs.items c.args.rows.now c.loop-row.row-index c.row-item.result
    c.in_ok-job.field-0 c.loop-row.invariant c.loop-row-test.true c.row-item.is c.in_ok-job.ensures
    c.in_default.is

pub returns : goal.returns
returns c =
    reads-all IsJobRow c.loop-row.jobs.items c.args.rows.now c.loop-row.row-index c.from.result
    c.loop-row.invariant c.loop-row-test.false c.from.ensures
