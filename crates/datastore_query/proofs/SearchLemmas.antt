-- What a search by halves finds in a list that is in order.
use Rattle.std.proofs.Common.{◌≡◌, ℕ, suc, ◌<◌, ◌≤◌, length, get_or, Bool, true, false, ◌||◌, List, [], ◌∷◌}
use Rattle.std.proofs.Common.{Result, Ok, Err, refl, sym, ap, ap₂, ◌∙◌, arith, zero, inl, inr}
use Rattle.std.specs.Prelude.{is_ok, ◌⊎◌}
use Rattle.std.specs.declared.cmp.Ordering.{Ordering}
use Rattle.std.specs.declared.cmp.Ordering.TheVariants.{Less, Greater}
use Rattle.std.specs.Ordering.{is_lt, is_eq}
use Rattle.std.specs.Cmp.{IsTotalOrder}
use Rattle.std.specs.List.{list_any}
use Rattle.std.specs.List.Sorted.{IsBinarySearchResult, IsPartitionPoint, IsSearchInRange, IsSortedBy}
use Rattle.std.proofs.lemmas.Bool.{cases_lt}
use Rattle.std.proofs.lemmas.List.Sorted.{searchable_from_sorted}

both_false : (a b : Bool) → (a || b) ≡ false → (a ≡ false) × (b ≡ false)
both_false true b h = absurd (cc)
both_false false b h = (refl, h)

-- If no item passes at its place, none passes.
pub none_passes : {X : Type 0} (p : X → Bool) (xs : List X)
    → ((k : ℕ) (d : X) → k < length xs → p (get_or xs k d) ≡ false) → list_any p xs ≡ false
none_passes p [] h = refl
none_passes p (x ∷ xs) h =
    ap₂ (λ a b. a || b) (h 0 x (omega arith)) (none_passes p xs (λ k d lt. h (suc k) d (omega arith)))

-- If the item at a place passes, one passes.
pub one_passes : {X : Type 0} (p : X → Bool) (xs : List X) (i : ℕ) → i < length xs
    → ((d : X) → p (get_or xs i d) ≡ true) → list_any p xs ≡ true
one_passes p [] i lt h = absurd (omega arith)
one_passes p (x ∷ xs) zero lt h = ap (λ b. b || list_any p xs) (h x)
one_passes p (x ∷ xs) (suc i) lt h =
    ap (λ b. p x || b) (one_passes p xs i (omega arith) h) ∙ or_true (p x)
  where
    or_true : (b : Bool) → (b || true) ≡ true
    or_true true = refl
    or_true false = refl

-- If a search by halves finds nothing, no item is equal.
pub none_found : {X : Type 0} {R : X → X → Ordering} (o : IsTotalOrder R) (xs : List X) (x : X) (i : ℕ)
    → IsSortedBy (λ a b. is_lt (R a b)) xs → IsBinarySearchResult (λ y. R y x) xs (Err i)
    → list_any (λ y. is_eq (R y x)) xs ≡ false
none_found {X} {R} o xs x i up parts =
    let sides = parts (searchable_from_sorted o (λ y. y) xs x up) in
    none_passes (λ y. is_eq (R y x)) xs (λ k d lt. beside k d (cases_lt k i) lt sides)
  where
    beside : (k : ℕ) (d : X) → (k < i) ⊎ (i ≤ k) → k < length xs
        → IsPartitionPoint (λ y. R y x ≡ Less) (λ y. R y x ≡ Greater) xs i → is_eq (R (get_or xs k d) x) ≡ false
    beside k d (inl below) lt sides = ap is_eq (sides.0 k d (omega arith) below)
    beside k d (inr above) lt sides = ap is_eq (sides.1 k d above lt)

-- A search by halves finds an item exactly where one is equal.
pub found_where_any : {X : Type 0} {R : X → X → Ordering} (o : IsTotalOrder R) (xs : List X) (x : X) (r : Result ℕ ℕ)
    → IsSortedBy (λ a b. is_lt (R a b)) xs → IsSearchInRange r (length xs) → IsBinarySearchResult (λ y. R y x) xs r
    → is_ok r ≡ list_any (λ y. is_eq (R y x)) xs
found_where_any {X} {R} o xs x (Ok i) up within at =
    sym (one_passes (λ y. is_eq (R y x)) xs i within (λ d. ap is_eq (at d)))
found_where_any o xs x (Err i) up within parts = sym (none_found o xs x i up parts)

-- A test that passes less than one that passes no item passes none.
pub none_of_fewer : {X : Type 0} (p q : X → Bool) → ((x : X) → p x ≡ true → q x ≡ true) → (xs : List X)
    → list_any q xs ≡ false → list_any p xs ≡ false
none_of_fewer p q fewer [] h = refl
none_of_fewer {X} p q fewer (x ∷ xs) h =
    let parts = both_false (q x) (list_any q xs) h in
    ap₂ (λ a b. a || b) (by (p x) refl parts.0) (none_of_fewer p q fewer xs parts.1)
  where
    by : (b : Bool) → p x ≡ b → q x ≡ false → p x ≡ false
    by false e h = e
    by true e h = absurd (cc (fewer x e, h))
