use Rattle.std.proofs.Common.{drop}
use Rattle.datastore_table.specs.Index.{LeavesRow}
use Rattle.datastore_table.proofs.StoreLemmas.{IsGoneBut}
use Rattle.datastore_table.proofs.store.leave_row.Given as goal

abbrev pub invariant-loop-columns : goal.invariant-loop-columns
invariant-loop-columns l = record {
  leaves : LeavesRow l.fn.index l.index l.id;
  gone : IsGoneBut l.column_lists (drop l.columns-index l.column_lists) l.cells l.id l.index;
}
