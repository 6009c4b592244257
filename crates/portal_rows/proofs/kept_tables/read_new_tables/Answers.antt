use Rattle.portal_rows.specs.KeptValues.{IsRowOfNewTable}
use Rattle.portal_rows.proofs.ZipLemmas.{reads-all, reads-more, reads-none, reads-refused}
use Rattle.portal_rows.proofs.kept_tables.read_new_tables.Goals as goal

pub loop-head-init : goal.loop-head-init
loop-head-init c = rw c.in_ok-tables.ensures.items (reads-none IsRowOfNewTable c.args.heads.now)

pub loop-head-preserved : goal.loop-head-preserved
loop-head-preserved c =
    rw c.in_ok-push.ensures.items
    (reads-more IsRowOfNewTable c.loop-head.tables.items c.args.heads.now c.loop-head.head-index c.head-item.result
    c.in_ok-table.field-0 c.in-Some.table c.loop-head.invariant c.loop-head-test.true c.head-item.is
    c.in_ok-table.ensures c.in-Some.is)

pub returns-in_default : goal.returns-in_default
returns-in_default c =
    reads-refused IsRowOfNewTable c.loop-head.tables.items c.args.heads.now c.loop-head.head-index c.head-item.result
    c.in_ok-table.field-0 c.loop-head.invariant c.loop-head-test.true c.head-item.is c.in_ok-table.ensures
    c.in_default.is

pub returns : goal.returns
returns c =
    reads-all IsRowOfNewTable c.loop-head.tables.items c.args.heads.now c.loop-head.head-index c.from.result
    c.loop-head.invariant c.loop-head-test.false c.from.ensures
