use Rattle.std.proofs.Common.{◌≡◌, ℕ, List, arith, rules, subst, sym}
use Rattle.datastore_table.specs.declared.row.Row.{Row}
use Rattle.datastore_table.specs.Batch.{cut_rows}
use Rattle.datastore_table.specs.Index.{IsIndexed, LeavesAll}
use Rattle.datastore_table.proofs.StoreLemmas.{delete_indexed}
use Rattle.datastore_table.proofs.store.RowStore.delete.Goals as goal

pub returns-clause-sound : goal.returns-clause-sound
returns-clause-sound c =
    let old = c.args.self.now in
    let rows : c.delete.new.rows.items ≡ cut_rows c.args.ids.now old.rows.items = c.delete.ensures in
    let leaves : LeavesAll old.index c.leave_all.new.index c.args.ids.now =
    subst (λ (ids : List ℕ). LeavesAll old.index c.leave_all.new.index ids) c.as_slice-3.ensures
    c.leave_all.ensures.leaves in
    record {
      indexed = subst (λ (rs : List Row). IsIndexed old.column_lists.items rs c.leave_all.new.index) (sym rows)
          (delete_indexed old.column_lists.items c.args.ids.now old.rows.items old.index c.leave_all.new.index
          c.requires.sound.indexed leaves);
      ready = record {
        rows = search rules;
        index = omega arith;
      };
    }
