use Rattle.std.proofs.Common.{ℕ, drop}
use Rattle.datastore_table.specs.Index.{LeavesAll}
use Rattle.datastore_table.proofs.StoreLemmas.{IsLeftBut}
use Rattle.datastore_table.proofs.store.leave_all.Given as goal

abbrev pub invariant-loop-id : goal.invariant-loop-id
invariant-loop-id l = record {
  leaves : LeavesAll l.fn.index l.index l.ids;
  left : IsLeftBut (λ (id : ℕ). id) l.column_lists l.rows l.ids (drop l.id-index l.ids) l.index;
}
