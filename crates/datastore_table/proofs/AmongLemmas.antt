-- Whether an `_id` is one of a list.
use Rattle.std.proofs.Common.{◌≡◌, ◌∙◌, ◌<◌, ◌≤◌, ℕ, ◌==◌, Bool, true, false, List, [], ◌∷◌, Result, Ok, Err}
use Rattle.std.proofs.Common.{Contains, MatchResult, IsPermutation, arith, get_or, inl, inr, length, refl, sym}
use Rattle.std.proofs.Common.{◌⊎◌, ◌||◌, is_ok, nat_lt}
use Rattle.std.proofs.lemmas.Bool.Decides.{nat_tests}
use Rattle.std.proofs.lemmas.List.Sorted.{Contains-permutation, IsPermutation-sym, searched}
use Rattle.std.proofs.lemmas.List.{get_or_default}
use Rattle.std.specs.List.Sorted.{IsBinarySearchResult, IsNonDecreasing}
use Rattle.std.specs.Ordering.{nat_cmp}
use Rattle.portal_base.proofs.Unique.{IsIn, IsIn-Contains, Contains-IsIn}
use Rattle.datastore_table.specs.Batch.{HaveSame, is_among}
use Rattle.datastore_table.proofs.ReferenceLemmas.{found-any}

same_number : (a b : ℕ) → (a == b) ≡ true → a ≡ b
same_number a b h = grind (arith, nat_tests)

itself : (a : ℕ) → (a == a) ≡ true
itself a = grind (arith, nat_tests)

pub IsIn-among : (ids : List ℕ) (id : ℕ) → IsIn id ids → is_among ids id ≡ true
IsIn-among ids id m = found-any (λ i. i == id) id ids m (itself id)

pub among-IsIn : (ids : List ℕ) (id : ℕ) → is_among ids id ≡ true → IsIn id ids
among-IsIn [] id h = absurd (cc)
among-IsIn (i ∷ ids) id h = by (λ t. among-IsIn ids id t) (i == id) refl h
  where
    by : (is_among ids id ≡ true → IsIn id ids) → (b : Bool) → (i == id) ≡ b → (b || is_among ids id) ≡ true
        → (id ≡ i) ⊎ IsIn id ids
    by more true e t = inl (sym (same_number i id e))
    by more false e t = inr (more t)

same_tests : (a b : Bool) → (a ≡ true → b ≡ true) → (b ≡ true → a ≡ true) → a ≡ b
same_tests true b to from = sym (to refl)
same_tests false true to from = from refl
same_tests false false to from = refl

-- The same `_id`s in another order.
pub same_among : (ids others : List ℕ) → IsPermutation ids others → HaveSame ids others
same_among ids others moved id =
    same_tests (is_among ids id) (is_among others id)
    (λ h. IsIn-among others id (IsIn-Contains id others (Contains-permutation ids others id moved
    (Contains-IsIn id ids (among-IsIn ids id h)))))
    (λ h. IsIn-among ids id (IsIn-Contains id ids (Contains-permutation others ids id (IsPermutation-sym ids others moved)
    (Contains-IsIn id others (among-IsIn others id h)))))

not_among : (ids : List ℕ) (id : ℕ) → ((k : ℕ) → k < length ids → get_or ids k 0 ≡ id → ⊥) → is_among ids id ≡ false
not_among ids id none = by (is_among ids id) refl
  where
    found : Contains ids id → is_among ids id ≡ false
    found h = absurd (none h.0 h.1 (get_or_default ids h.0 0 id h.1 ∙ h.2))

    by : (b : Bool) → is_among ids id ≡ b → is_among ids id ≡ false
    by true e = found (Contains-IsIn id ids (among-IsIn ids id e))
    by false e = e

-- What a search by halves answers.
pub searched_among : (ids : List ℕ) (id : ℕ) (r : Result ℕ ℕ) → IsNonDecreasing ids
    → IsBinarySearchResult (λ y. nat_cmp y id) ids r → is_ok r ≡ is_among ids id
searched_among ids id r up position = by r (searched ids id r position (λ i j le lt. up i j 0 le lt))
  where
    by : (r : Result ℕ ℕ)
        → MatchResult r (λ i. (i < length ids) × (get_or ids i 0 ≡ id))
        (λ i. (i ≤ length ids) × ((k : ℕ) → k < i → get_or ids k 0 < id)
        × ((k : ℕ) → i ≤ k → k < length ids → id < get_or ids k 0)) → is_ok r ≡ is_among ids id
    by (Ok i) h =
        sym (IsIn-among ids id (IsIn-Contains id ids (i, h.0, get_or_default ids i id 0 h.0 ∙ h.1)))
    by (Err i) h = sym (not_among ids id none)
      where
        none : (k : ℕ) → k < length ids → get_or ids k 0 ≡ id → ⊥
        none k lt e = split (nat_lt k i) refl
          where
            split : (b : Bool) → nat_lt k i ≡ b → ⊥
            split true t = let first : k < i = grind (arith, nat_tests) in omega (arith, h.1 k first)
            split false t = let later : i ≤ k = grind (arith, nat_tests) in omega (arith, h.2 k later lt)
