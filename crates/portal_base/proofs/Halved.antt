-- What a binary search finds in a list that ascends.
use Rattle.std.proofs.Common.{◌≡◌, ◌+◌, ◌<◌, ◌≤◌, ℕ, zero, suc, true, false, not, cond, List, [], ◌∷◌, length}
use Rattle.std.proofs.Common.{get_or, set, Some, None, refl, sym, ap, subst, ◌∙◌, arith}
use Rattle.std.specs.Prelude.{◌&&◌, ◌||◌, Result, Ok, Err, MatchResult, position, slice_get, insert, nat_lt}
use Rattle.std.specs.List.{list_any, prefix_len, position_or_len, AllAdjacentBelow, HoldsAt}
use Rattle.std.specs.List.Sorted.{IsBinarySearchResult, IsNonDecreasingBy, IsPartitionPoint, IsSearchInRange}
use Rattle.std.specs.Cmp.{IsTotalOrder}
use Rattle.std.specs.Ordering.{is_lt, is_eq, ordering_index, ordering_reverse}
use Rattle.std.specs.Result.{result_ok}
use Rattle.std.specs.declared.cmp.Ordering.{Ordering}
use Rattle.std.specs.declared.cmp.Ordering.TheVariants.{Less, Equal, Greater}
use Rattle.std.proofs.lemmas.Bool.Decides.{nat_tests}
use Rattle.std.proofs.lemmas.List.{get_or_default}
use Rattle.std.proofs.lemmas.List.Sums.{prefix_len_is}
use Rattle.std.proofs.lemmas.Option.{slice_get-get_or}
use Rattle.portal_base.specs.Ordered.{IsBelowAll, IsAscending, IsKey, IsKey-field, IsMonotone, IsMonotone-field}
use Rattle.portal_base.specs.Ordered.{are_apart, found, upserted}
use Rattle.portal_base.proofs.Inserted.{IsBelowAll-trans}
use Rattle.portal_base.proofs.Removed.{removed-some}
use Rattle.portal_base.proofs.Upserted.{upserted_at, inserted_at}

-- ---- an ascending list by its indices

pub is_lt_true : (r : Ordering) → is_lt r ≡ true → r ≡ Less
is_lt_true Less h = refl
is_lt_true Equal h = absurd (cc)
is_lt_true Greater h = absurd (cc)

below_at : {X : Type 0} (cmp : X → X → Ordering) (x d : X) (xs : List X) → IsBelowAll cmp x xs → (j : ℕ) → j < length xs
    → cmp x (get_or xs j d) ≡ Less
below_at cmp x d [] below j lt = absurd (omega (arith, lt))
below_at cmp x d (y ∷ ys) below zero lt = below.0
below_at cmp x d (y ∷ ys) below (suc j) lt = below_at cmp x d ys below.1 j (omega (arith, lt))

-- An item is below each later one.
pub ascending_at : {X : Type 0} (cmp : X → X → Ordering) (d : X) (xs : List X) → IsAscending cmp xs → (i j : ℕ)
    → i < j → j < length xs → cmp (get_or xs i d) (get_or xs j d) ≡ Less
ascending_at cmp d [] up i j lt within = absurd (omega (arith, within))
ascending_at cmp d (x ∷ xs) up i zero lt within = absurd (omega (arith, lt))
ascending_at cmp d (x ∷ xs) up zero (suc j) lt within = below_at cmp x d xs up.0 j (omega (arith, within))
ascending_at cmp d (x ∷ xs) up (suc i) (suc j) lt within =
    ascending_at cmp d xs up.1 i j (omega (arith, lt)) (omega (arith, within))

-- A list in which each item is below the next one ascends.
pub IsAscending-adjacent : {X : Type 0} (cmp : X → X → Ordering) (o : IsTotalOrder cmp) (xs : List X)
    → AllAdjacentBelow (λ x y. true ≡ is_lt (cmp x y)) xs (length xs) → IsAscending cmp xs
IsAscending-adjacent cmp o [] steps = tt
IsAscending-adjacent cmp o (x ∷ []) steps = (tt, tt)
IsAscending-adjacent cmp o (x ∷ y ∷ ys) steps =
    let rest : IsAscending cmp (y ∷ ys) =
    IsAscending-adjacent cmp o (y ∷ ys)
    (λ k d lt. subst (λ n. true ≡ is_lt (cmp (get_or (y ∷ ys) k d) (get_or (x ∷ y ∷ ys) n d))) (shifted k)
    (steps (suc k) d (omega (arith, lt)))) in
    let below : cmp x y ≡ Less = is_lt_true (cmp x y) (sym (steps 0 x (omega arith))) in
    ((below, IsBelowAll-trans cmp o x y ys below rest.0), rest)
  where
    shifted : (k : ℕ) → suc k + 1 ≡ suc (k + 1)
    shifted k = omega arith

-- No two of its items are equal.
pub are_apart-ascending : {X : Type 0} (cmp : X → X → Ordering) (o : IsTotalOrder cmp) (xs : List X)
    → IsAscending cmp xs → are_apart cmp xs ≡ true
are_apart-ascending cmp o [] up = refl
are_apart-ascending cmp o (x ∷ xs) up =
    ap (λ b. not b && are_apart cmp xs) (none_equal xs up.0) ∙ are_apart-ascending cmp o xs up.1
  where
    none_equal : (ys : List _) → IsBelowAll cmp x ys → list_any (λ y. is_eq (cmp y x)) ys ≡ false
    none_equal [] below = refl
    none_equal (y ∷ ys) below =
        ap (λ r. is_eq r || list_any (λ z. is_eq (cmp z x)) ys) (o.antisymm y x ∙ ap ordering_reverse below.0)
        ∙ none_equal ys below.1

-- ---- the search for a key

module _ {X : Type 0} (cmp : X → X → Ordering) (o : IsTotalOrder cmp) (at : X → Ordering) (key : IsKey cmp at)
    (mono : IsMonotone cmp at) where
  -- Of two items in order, the later one is not nearer to the front by the key.
  in_order : (x y : X) → cmp x y ≡ Less → ordering_index (at x) ≤ ordering_index (at y)
  in_order x y below = by (at x) (at y) refl refl
    where
      above : cmp y x ≡ Greater
      above = o.antisymm y x ∙ ap ordering_reverse below

      by : (r s : Ordering) → at x ≡ r → at y ≡ s → ordering_index r ≤ ordering_index s
      by Less s e f = omega arith
      by Equal s e f = rw (sym f ∙ key x y e ∙ above) (omega arith)
      by Greater Less e f = let less : at x ≡ Less = mono x y below f in absurd (cc)
      by Greater Equal e f = let less : at x ≡ Less = key y x f ∙ below in absurd (cc)
      by Greater Greater e f = omega arith

  -- So a binary search by the key works.
  pub rises : (xs : List X) → IsAscending cmp xs → IsNonDecreasingBy (λ y. ordering_index (at y)) xs
  rises xs up i j d le lt = elim (nat_lt i j) as
      (λ b. nat_lt i j ≡ b → ordering_index (at (get_or xs i d)) ≤ ordering_index (at (get_or xs j d))) [
        | true ↦ λ e. in_order _ _ (ascending_at cmp d xs up i j (grind (arith, nat_tests)) lt)
        | false ↦ λ e. let same : i ≡ j = grind (arith, nat_tests) in
            rw same (omega arith)
      ] refl

  -- The items before the one with the key are below it.
  below_found : (xs : List X) → IsAscending cmp xs → (i : ℕ) → i < length xs → HoldsAt (λ y. at y ≡ Equal) xs i
      → (k : ℕ) (d : X) → k < i → at (get_or xs k d) ≡ Less
  below_found xs up i within here k d lt =
      key (get_or xs i d) (get_or xs k d) (here d) ∙ ascending_at cmp d xs up k i lt within

  -- What a binary search finds is the first item with the key.
  pub position_by_halving : (xs : List X) → IsAscending cmp xs → (r : Result ℕ ℕ) → IsSearchInRange r (length xs)
      → IsBinarySearchResult at xs r → result_ok r ≡ position (λ y. is_eq (at y)) xs
  position_by_halving [] up (Ok i) lt here = absurd (omega arith)
  position_by_halving [] up (Err i) le parted = refl
  position_by_halving (x ∷ rest) up (Ok i) lt here =
      let xs : List X = x ∷ rest in
      let first : position_or_len (λ y. is_eq (at y)) xs ≡ i = prefix_len_is (λ y. not (is_eq (at y))) xs i x (omega arith)
      (λ k below. ap (λ r. not (is_eq r)) (below_found xs up i lt here k x below))
      (λ within. ap (λ r. not (is_eq r)) (here x)) in
      let within : nat_lt i (length xs) ≡ true = grind (arith, nat_tests) in
      sym (rw first (ap (λ b. cond b (Some i) None) within))
  position_by_halving (x ∷ rest) up (Err i) le parted =
      let xs : List X = x ∷ rest in
      let none : position_or_len (λ y. is_eq (at y)) xs ≡ length xs =
      prefix_len_is (λ y. not (is_eq (at y))) xs (length xs) x (omega arith)
      (λ k within. other (parted (rises xs up)) k within) (λ past. absurd (omega arith)) in
      let past : nat_lt (length xs) (length xs) ≡ false = grind (arith, nat_tests) in
      sym (rw none (ap (λ b. cond b (Some (length xs)) None) past))
    where
      other : IsPartitionPoint (λ y. at y ≡ Less) (λ y. at y ≡ Greater) (x ∷ rest) i → (k : ℕ)
          → k < length (x ∷ rest) → not (is_eq (at (get_or (x ∷ rest) k x))) ≡ true
      other point k within = elim (nat_lt k i) as
          (λ b. nat_lt k i ≡ b → not (is_eq (at (get_or (x ∷ rest) k x))) ≡ true) [
            | true ↦ λ e. ap (λ r. not (is_eq r)) (point.0 k x (omega arith) (grind (arith, nat_tests)))
            | false ↦ λ e. ap (λ r. not (is_eq r)) (point.1 k x (grind (arith, nat_tests)) within)
          ] refl

-- ---- the search for an item's equal

-- What a binary search finds is where the item is, or is inserted.
pub index_by_halving : {X : Type 0} (cmp : X → X → Ordering) (o : IsTotalOrder cmp) (x : X) (xs : List X)
    → IsAscending cmp xs → (r : Result ℕ ℕ) → IsSearchInRange r (length xs)
    → IsBinarySearchResult (λ y. cmp y x) xs r
    → MatchResult r (λ i. found (λ y. cmp y x) xs ≡ slice_get xs i) (λ _. found (λ y. cmp y x) xs ≡ None)
    × MatchResult r (λ i. upserted cmp x xs ≡ set xs i x) (λ i. upserted cmp x xs ≡ insert xs i x)
index_by_halving cmp o x xs up (Ok i) lt here =
    let key = IsKey-field (λ y. y) o x in
    let mono = IsMonotone-field (λ y. y) o x in
    let before : prefix_len (λ y. is_lt (cmp y x)) xs ≡ i = prefix_len_is (λ y. is_lt (cmp y x)) xs i x (omega arith)
    (λ k below. ap is_lt (below_found cmp o (λ y. cmp y x) key mono xs up i lt here k x below))
    (λ within. ap is_lt (here x)) in
    upserted_at cmp o x xs up i (sym before) lt (get_or xs i x) (sym (get_or_default xs i _ x lt)) (ap is_eq (here x))
index_by_halving cmp o x xs up (Err i) le parted =
    let point = parted (rises cmp o (λ y. cmp y x) (IsKey-field (λ y. y) o x) (IsMonotone-field (λ y. y) o x) xs up) in
    let before : prefix_len (λ y. is_lt (cmp y x)) xs ≡ i = prefix_len_is (λ y. is_lt (cmp y x)) xs i x le
    (λ k below. ap is_lt (point.0 k x (omega arith) below)) (λ within. ap is_lt (point.1 i x (omega arith) within)) in
    inserted_at cmp o x xs up i (sym before) (λ within. ap is_eq (point.1 i x (omega arith) within))

-- ---- the item at the position

-- The item at the first position with the key is what is found.
pub found-position : {X : Type 0} (at : X → Ordering) (xs : List X) (i : ℕ)
    → position (λ y. is_eq (at y)) xs ≡ Some i → i < length xs → found at xs ≡ slice_get xs i
found-position at [] i e within = absurd (omega arith)
found-position at (x ∷ rest) i e within =
    (removed-some at (x ∷ rest) i e x).0 ∙ sym (slice_get-get_or (x ∷ rest) i x within)
