use Rattle.portal_rows.specs.KeptValues.{IsDatasetRow}
use Rattle.portal_rows.proofs.ZipLemmas.{reads-all, reads-more, reads-none, reads-refused}
use Rattle.portal_rows.proofs.kept_values.read_datasets.Goals as goal

pub loop-row-init : goal.loop-row-init
loop-row-init c = rw c.in_ok-datasets.ensures.items (reads-none IsDatasetRow c.args.rows.now)

pub loop-row-preserved : goal.loop-row-preserved
loop-row-preserved c =
    rw c.in_ok-push.ensures.items
    (reads-more IsDatasetRow c.loop-row.datasets.items c.args.rows.now c.loop-row.row-index c.row-item.result
    c.in_ok-dataset.field-0 c.in-Some.dataset c.loop-row.invariant c.loop-row-test.true c.row-item.is
    c.in_ok-dataset.ensures c.in-Some.is)

pub returns-in_default : goal.returns-in_default
returns-in_default c =
    reads-refused IsDatasetRow c.loop-row.datasets.items c.args.rows.now c.loop-row.row-index c.row-item.result
    c.in_ok-dataset.field-0 c.loop-row.invariant c.loop-row-test.true c.row-item.is c.in_ok-dataset.ensures
    c.in_default.is

pub returns : goal.returns
returns c =
    reads-all IsDatasetRow c.loop-row.datasets.items c.args.rows.now c.loop-row.row-index c.from.result
    c.loop-row.invariant c.loop-row-test.false c.from.ensures
