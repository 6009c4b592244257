use Rattle.std.proofs.Common.{◌≡◌, ◌≤◌, List, ℕ, arith, length, subst, sym}
use Rattle.portal_base.specs.Ordered.{upserted}
use Rattle.datastore_table.specs.declared.row.Row.{Row}
use Rattle.datastore_table.specs.Index.{EntersRow, IsIndexed}
use Rattle.datastore_table.specs.Rows.{row_cmp}
use Rattle.datastore_table.proofs.StoreLemmas.{put_indexed, room_left, room_of_one}
use Rattle.datastore_table.proofs.store.RowStore.put.Goals as goal

pub enter_row-requires : goal.enter_row-requires
enter_row-requires c =
    let old = c.args.self.now in
    subst (λ (cs : List (List ℕ)). length cs ≤ c.leave_id.new.index.room) (sym c.as_slice-column_lists.ensures.value)
    (room_of_one old.ready (length old.column_lists.items) old.index.room c.leave_id.new.index.room c.requires.room
    c.requires.sound.ready.index c.leave_id.ensures.leaves.room)

pub returns-clause-sound : goal.returns-clause-sound
returns-clause-sound c =
    let old = c.args.self.now in
    let lists = old.column_lists.items in
    let row = c.args.row in
    let mid = c.leave_id.new.index in
    let new = c.enter_row.new.index in
    let enters : EntersRow mid new lists row =
    subst (λ (cs : List (List ℕ)). EntersRow mid new cs row) c.as_slice-column_lists.ensures.value c.enter_row.ensures in
    let put : c.put_row.new.rows.items ≡ upserted row_cmp row old.rows.items = c.put_row.ensures.items in
    record {
      indexed = subst (λ (rs : List Row). IsIndexed lists rs new) (sym put)
          (put_indexed lists row old.rows.items old.index mid new c.requires.sound.indexed c.leave_id.ensures.leaves
          enters);
      ready = record {
        rows = omega (
          arith,
          c.requires.sound.ready.rows,
          c.put_row.ensures.capacity,
          c.put_row.ensures.len,
          c.requires.room,
        );
        index = room_left old.ready _ (length lists) old.index.room mid.room new.room (omega (arith, c.requires.room))
            c.requires.sound.ready.index c.leave_id.ensures.leaves.room enters.room;
      };
    }
