-- Sums over a list of which one element changes.
use Rattle.std.proofs.Common.{◌≡◌, ◌≢◌, ℕ, zero, suc, ◌+◌, ◌≤◌, List, [], ◌∷◌, set, refl, ap, sym, arith}
use Rattle.std.specs.Prelude.{sum_by}
use Rattle.std.proofs.lemmas.List.Sums.{sum_by-cons}
use mathlib.Core.Option.{some, some-injective, some-ne-none}
use lib.ListN.{get_elem?}

module _ {A : Type 0} (f : A → ℕ) where
  pub sum-set : (xs : List A) (i : ℕ) (v w : A) → get_elem? xs i ≡ some v
      → sum_by f (set xs i w) + f v ≡ sum_by f xs + f w
  sum-set [] i v w at = absurd (some-ne-none v (sym at))
  sum-set (x ∷ xs) zero v w at = let e : f x ≡ f v = ap f (some-injective x v at) in
      omega (arith, sum_by-cons f x xs, sum_by-cons f w xs)
  sum-set (x ∷ xs) (suc i) v w at = let h = sum-set xs i v w at in
      omega (arith, sum_by-cons f x xs, sum_by-cons f x (set xs i w))

  pub at_most : (xs : List A) (i : ℕ) (v : A) → get_elem? xs i ≡ some v → f v ≤ sum_by f xs
  at_most [] i v at = absurd (some-ne-none v (sym at))
  at_most (x ∷ xs) zero v at = let e : f x ≡ f v = ap f (some-injective x v at) in omega (arith, sum_by-cons f x xs)
  at_most (x ∷ xs) (suc i) v at = let h = at_most xs i v at in omega (arith, sum_by-cons f x xs)

  -- two elements at two indexes
  pub both_at_most : (xs : List A) (i j : ℕ) (v w : A) → i ≢ j → get_elem? xs i ≡ some v → get_elem? xs j ≡ some w
      → f v + f w ≤ sum_by f xs
  both_at_most [] i j v w ne a b = absurd (some-ne-none v (sym a))
  both_at_most (x ∷ xs) zero zero v w ne a b = absurd (ne refl)
  both_at_most (x ∷ xs) zero (suc j) v w ne a b =
      let e : f x ≡ f v = ap f (some-injective x v a) in let h = at_most xs j w b in omega (arith, sum_by-cons f x xs)
  both_at_most (x ∷ xs) (suc i) zero v w ne a b =
      let e : f x ≡ f w = ap f (some-injective x w b) in let h = at_most xs i v a in omega (arith, sum_by-cons f x xs)
  both_at_most (x ∷ xs) (suc i) (suc j) v w ne a b =
      let h = both_at_most xs i j v w (λ e. ne (ap suc e)) a b in omega (arith, sum_by-cons f x xs)

  -- no element counts
  pub none_counts : (xs : List A) → ((j : ℕ) (w : A) → get_elem? xs j ≡ some w → f w ≡ 0) → sum_by f xs ≡ 0
  none_counts [] h = refl
  none_counts (x ∷ xs) h =
      let e : f x ≡ 0 = h 0 x refl in
      let r = none_counts xs (λ j w at. h (suc j) w at) in
      omega (arith, sum_by-cons f x xs)

  -- one element alone counts
  pub one_counts : (xs : List A) (i : ℕ) (v : A) → get_elem? xs i ≡ some v
      → ((j : ℕ) (w : A) → j ≢ i → get_elem? xs j ≡ some w → f w ≡ 0)
      → sum_by f xs ≡ f v
  one_counts [] i v at h = absurd (some-ne-none v (sym at))
  one_counts (x ∷ xs) zero v at h =
      let e : f x ≡ f v = ap f (some-injective x v at) in
      let r = none_counts xs (λ j w there. h (suc j) w (λ e. omega arith) there) in
      omega (arith, sum_by-cons f x xs)
  one_counts (x ∷ xs) (suc i) v at h =
      let e : f x ≡ 0 = h 0 x (λ e. omega arith) refl in
      let r = one_counts xs i v at (λ j w ne there. h (suc j) w (λ e. ne (omega arith)) there) in
      omega (arith, sum_by-cons f x xs)

  pub sum-below : (g : A → ℕ) (xs : List A) → ((j : ℕ) (v : A) → get_elem? xs j ≡ some v → f v ≤ g v)
      → sum_by f xs ≤ sum_by g xs
  sum-below g [] h = omega arith
  sum-below g (x ∷ xs) h =
      let e : f x ≤ g x = h 0 x refl in
      let r = sum-below g xs (λ j w at. h (suc j) w at) in
      omega (arith, sum_by-cons f x xs, sum_by-cons g x xs)
