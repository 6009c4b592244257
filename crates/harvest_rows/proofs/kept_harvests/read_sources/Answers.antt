use Rattle.harvest_rows.specs.Rows.{IsSourceRow}
use Rattle.harvest_rows.proofs.ListLemmas.{reads-all, reads-more, reads-none, reads-refused}
use Rattle.harvest_rows.proofs.kept_harvests.read_sources.Goals as goal

pub loop-row-init : goal.loop-row-init
loop-row-init c = rw c.in_ok-sources.ensures.items (reads-none IsSourceRow c.args.rows.now)

pub loop-row-preserved : goal.loop-row-preserved
loop-row-preserved c =
    rw c.in_ok-push.ensures.items
    (reads-more IsSourceRow c.loop-row.sources.items c.args.rows.now c.loop-row.row-index c.row-item.result
    c.in_ok-source.field-0 c.in-Some.source c.loop-row.invariant c.loop-row-test.true c.row-item.is
    c.in_ok-source.ensures c.in-Some.is)

pub returns-in_default : goal.returns-in_default
returns-in_default c =
    reads-refused IsSourceRow c.loop-row.sources.items c.args.rows.now c.loop-row.row-index c.row-item.result
    c.in_ok-source.field-0 c.loop-row.invariant c.loop-row-test.true c.row-item.is c.in_ok-source.ensures
    c.in_default.is

pub returns : goal.returns
returns c =
    reads-all IsSourceRow c.loop-row.sources.items c.args.rows.now c.loop-row.row-index c.from.result
    c.loop-row.invariant c.loop-row-test.false c.from.ensures
