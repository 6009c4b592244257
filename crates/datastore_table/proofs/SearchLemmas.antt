-- The index that a binary search finds for an item among others in order.
use Rattle.std.proofs.Common.{◌≡◌, ◌<◌, ◌≤◌, ℕ, zero, suc, Bool, true, false, List, [], ◌∷◌, length, get_or, ap, sym}
use Rattle.std.proofs.Common.{arith}
use Rattle.std.proofs.lemmas.List.Sums.{prefix_len_is}
use Rattle.std.specs.Cmp.{IsTotalOrder}
use Rattle.std.specs.List.{prefix_len}
use Rattle.std.specs.List.Sorted.{IsPartitionedBy, IsPartitionPoint}
use Rattle.std.specs.Ordering.{is_lt}
use Rattle.std.specs.declared.cmp.Ordering.{Ordering}
use Rattle.std.specs.declared.cmp.Ordering.TheVariants.{Less}
use Rattle.portal_base.specs.Ordered.{IsAscending, IsBelowAll}
use Rattle.datastore_table.proofs.Merged.{is_lt_true}

below_at : {X : Type 0} (cmp : X → X → Ordering) (x d : X) (xs : List X) → IsBelowAll cmp x xs → (j : ℕ) → j < length xs
    → cmp x (get_or xs j d) ≡ Less
below_at cmp x d [] below j lt = absurd (omega (arith, lt))
below_at cmp x d (y ∷ ys) below zero lt = below.0
below_at cmp x d (y ∷ ys) below (suc j) lt = below_at cmp x d ys below.1 j (omega (arith, lt))

-- The items below an item come before all others.
pub below_first : {X : Type 0} (cmp : X → X → Ordering) (o : IsTotalOrder cmp) (x : X) (xs : List X)
    → IsAscending cmp xs → IsPartitionedBy (λ y. is_lt (cmp y x)) xs
below_first cmp o x [] up i j d le lt h = absurd (omega (arith, lt))
below_first cmp o x (y ∷ ys) up zero zero d le lt h = h
below_first cmp o x (y ∷ ys) up zero (suc j) d le lt h =
    ap is_lt
    (o.trans y (get_or ys j d) x (below_at cmp y d ys up.0 j (omega (arith, lt)))
    (is_lt_true (cmp (get_or ys j d) x) h))
below_first cmp o x (y ∷ ys) up (suc i) zero d le lt h = absurd (omega (arith, le))
below_first cmp o x (y ∷ ys) up (suc i) (suc j) d le lt h =
    below_first cmp o x ys up.1 i j d (omega (arith, le)) (omega (arith, lt)) h

-- The partition point is the count of items below.
pub index_is : {X : Type 0} (p : X → Bool) (xs : List X) (d : X) (i : ℕ) → i ≤ length xs
    → IsPartitionPoint (λ y. p y ≡ true) (λ y. p y ≡ false) xs i → i ≡ prefix_len p xs
index_is p xs d i within point =
    sym (prefix_len_is p xs i d within (λ k lt. point.0 k d (omega arith) lt) (λ lt. point.1 i d (omega arith) lt))
