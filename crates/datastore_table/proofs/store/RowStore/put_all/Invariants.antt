use Rattle.std.proofs.Common.{◌≡◌, ◌≤◌, length}
use Rattle.portal_base.specs.Ordered.{IsAscending}
use Rattle.datastore_table.specs.Index.{IsSound}
use Rattle.datastore_table.specs.Rows.{row_cmp, rows_after}
use Rattle.datastore_table.proofs.store.RowStore.put_all.Given as goal

abbrev pub invariant-loop-row : goal.invariant-loop-row
invariant-loop-row l = record {
  placed : rows_after l.fn.changed.items l.fn.self.rows.items ≡ rows_after l.row-iterator.rest.items l.self.rows.items;
  ascending : IsAscending row_cmp l.self.rows.items;
  sound : IsSound l.self;
  column_lists : l.self.column_lists.items ≡ l.fn.self.column_lists.items;
  room : length l.row-iterator.rest.items ≤ l.self.ready;
}
