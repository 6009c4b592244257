use Rattle.std.proofs.Common.{arith, subst}
use Rattle.datastore_table.specs.Index.{EntersAt}
use Rattle.datastore_table.proofs.StoreLemmas.{entered_all, led_more}
use Rattle.datastore_table.proofs.store.enter_row.Goals as goal

pub enter_at-requires : goal.enter_at-requires
enter_at-requires c = omega (arith, c.requires, c.loop-columns.invariant.room, c.loop-columns-test.true)

pub loop-columns-preserved : goal.loop-columns-preserved
loop-columns-preserved c =
    let column_lists = c.args.column_lists.now in
    let k = c.loop-columns.columns-index in
    let columns = c.columns-item.result in
    let row = c.args.row.now in
    let entered : EntersAt c.loop-columns.index c.enter_at.new.index columns row =
    subst (λ p. EntersAt c.loop-columns.index c.enter_at.new.index p row) c.as_slice.ensures c.enter_at.ensures in
    record {
      led = led_more column_lists k columns row c.loop-columns.index c.enter_at.new.index c.loop-columns-test.true
          c.columns-item.is c.loop-columns.invariant.led entered;
      kept = λ d i under. entered.kept d i (c.loop-columns.invariant.kept d i under);
      within = omega (arith, c.loop-columns-test.true);
      room = omega (arith, c.loop-columns.invariant.room, entered.room);
    }

pub returns : goal.returns
returns c =
    entered_all c.args.column_lists.now c.loop-columns.columns-index c.args.row.now c.args.index.now
    c.loop-columns.index
    c.loop-columns-test.false c.loop-columns.invariant.within c.loop-columns.invariant.led c.loop-columns.invariant.kept
    c.loop-columns.invariant.room
