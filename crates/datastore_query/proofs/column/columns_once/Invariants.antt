use Rattle.std.proofs.Common.{◌≡◌, ℕ, ◌==◌, drop, fold, nat_eq}
use Rattle.std.specs.HashSet.{contains}
use Rattle.std.specs.List.{list_any}
use Rattle.datastore_query.specs.Query.{with_first}
use Rattle.datastore_query.specs.Repeats.{column_number, columns_once, is_same_column}
use Rattle.datastore_query.proofs.column.columns_once.Given as goal

abbrev pub invariant-loop-column : goal.invariant-loop-column
invariant-loop-column l = record {
  once : columns_once l.columns ≡ fold (with_first is_same_column) l.once.items (drop l.column-index l.columns);
  seen : (n : ℕ) → contains nat_eq l.seen n ≡ list_any (λ column. column_number column == n) l.once.items;
}
