use Rattle.std.proofs.Common.{length}
use Rattle.datastore_table.proofs.StoreLemmas.{enter_more, room_first, room_more}
use Rattle.datastore_table.proofs.store.enter_all.Goals as goal

pub enter_row-requires : goal.enter_row-requires
enter_row-requires c =
    room_first c.args.rows.now c.loop-row.row-index c.row-item.result (length c.args.column_lists.now)
    c.loop-row.index.room c.loop-row-test.true c.row-item.is c.loop-row.invariant.room

pub loop-row-preserved : goal.loop-row-preserved
loop-row-preserved c =
    let column_lists = c.args.column_lists.now in
    let rows = c.args.rows.now in
    let k = c.loop-row.row-index in
    let row = c.row-item.result in
    record {
      led = enter_more column_lists rows k row c.loop-row.index c.enter_row.new.index c.loop-row-test.true c.row-item.is
          c.loop-row.invariant.led c.enter_row.ensures;
      room = room_more rows k row (length column_lists) c.loop-row.index.room c.enter_row.new.index.room
          c.loop-row-test.true c.row-item.is c.loop-row.invariant.room c.enter_row.ensures.room;
    }
