use Rattle.std.proofs.Common.{◌⊎◌, ◌+◌, ◌≤◌, ℕ, List, drop, length}
use Rattle.digest_index.specs.Index.{IsUnder}
use Rattle.portal_base.proofs.Unique.{IsIn}
use Rattle.datastore_table.specs.Index.{IsLedTo}
use Rattle.datastore_table.proofs.store.enter_row.Given as goal

abbrev pub invariant-loop-columns : goal.invariant-loop-columns
invariant-loop-columns l = record {
  led : (columns : List ℕ) → IsIn columns l.column_lists
      → IsIn columns (drop l.columns-index l.column_lists) ⊎ IsLedTo columns l.index l.row;
  kept : (d i : ℕ) → IsUnder l.fn.index d i → IsUnder l.index d i;
  within : l.columns-index ≤ length l.column_lists;
  room : l.fn.index.room ≤ l.index.room + l.columns-index;
}
