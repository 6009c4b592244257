-- Lists whose items are found by halving, through the indices of the items in ascending order.
use Rattle.std.specs.Prelude.{ℕ, ◌<◌, List, length, slice_index_or, All, Contains}
use Rattle.std.specs.declared.cmp.Ordering.{Ordering}
use Rattle.std.specs.Ordering.{is_lt}
use Rattle.std.specs.List.Sorted.{IsSortedBy}

-- each number below the count, and no other
pub record AreBelow (count : ℕ) (indices : List ℕ) : Type 0 where
  pub within : All (λ i. i < count) indices
  pub complete : (i : ℕ) → i < count → Contains indices i

-- The indices of all items, in an order in which the items ascend. The default stands for items past the end.
pub record IsIndex {A : Type 0} (cmp : A → A → Ordering) (default : A) (items : List A) (indices : List ℕ) : Type 0 where
  pub below : AreBelow (length items) indices
  pub ascending : IsSortedBy
      (λ i j. is_lt (cmp (slice_index_or items i default) (slice_index_or items j default))) indices
