use Rattle.std.proofs.Common.{◌≡◌, ℕ, ◌==◌, drop, fold, nat_eq}
use Rattle.std.specs.HashSet.{contains}
use Rattle.std.specs.List.{list_any}
use Rattle.datastore_query.specs.Query.{with_first}
use Rattle.datastore_query.specs.Repeats.{by_one_column, column_number, deciding}
use Rattle.datastore_query.proofs.sort.deciding.Given as goal

abbrev pub invariant-loop-sort : goal.invariant-loop-sort
invariant-loop-sort l = record {
  first : deciding l.sorts ≡ fold (with_first by_one_column) l.first.items (drop l.sort-index l.sorts);
  seen : (n : ℕ) → contains nat_eq l.seen n ≡ list_any (λ sort. column_number sort.column == n) l.first.items;
}
