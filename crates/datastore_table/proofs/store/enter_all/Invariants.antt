use Rattle.std.proofs.Common.{◌⊎◌, ◌*◌, ◌≤◌, ℕ, List, drop, length}
use Rattle.portal_base.proofs.Unique.{IsIn}
use Rattle.datastore_table.specs.declared.row.Row.{Row}
use Rattle.datastore_table.specs.Index.{IsLedTo}
use Rattle.datastore_table.proofs.store.enter_all.Given as goal

abbrev pub invariant-loop-row : goal.invariant-loop-row
invariant-loop-row l = record {
  led : (columns : List ℕ) → IsIn columns l.column_lists → (row : Row) → IsIn row l.rows
      → IsIn row (drop l.row-index l.rows) ⊎ IsLedTo columns l.index row;
  room : length (drop l.row-index l.rows) * length l.column_lists ≤ l.index.room;
}
