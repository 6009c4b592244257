use Rattle.std.proofs.Common.{arith}
use Rattle.datastore_table.proofs.StoreLemmas.{indexed_same}
use Rattle.datastore_table.proofs.store.RowStore.reserve.Goals as goal

pub returns-in_err-reserve-2-clause-sound : goal.returns-in_err-reserve-2-clause-sound
returns-in_err-reserve-2-clause-sound c =
    let old = c.args.self.now in
    record {
      indexed = indexed_same old.column_lists.items old.rows.items c.reserve.new.self.items old.index
          c.reserve-2.new.self
          c.reserve.ensures.items c.reserve-2.ensures.first c.reserve-2.ensures.further c.requires.indexed;
      ready = record {
        rows = omega (arith, c.requires.ready.rows, c.reserve.ensures.capacity, c.reserve.ensures.len);
        index = omega (arith, c.requires.ready.index, c.reserve-2.ensures.kept);
      };
    }
