-- Sorted items, and the item of an ascending list that has a key.
use Rattle.std.proofs.Common.{◌≡◌, ◌∙◌, ◌+◌, ◌<◌, ℕ, zero, suc, Bool, true, false, ◌&&◌, ◌||◌, cond, not, List, [], ◌∷◌}
use Rattle.std.proofs.Common.{Some, None, inl, inr, length, get_or, set, map, refl, sym, ap, subst, arith}
use Rattle.std.specs.Prelude.{position}
use Rattle.std.specs.Cmp.{IsTotalOrder}
use Rattle.std.specs.List.{IsAllAdjacentAnswer, list_any}
use Rattle.std.specs.List.Sorted.{IsPermutation, IsSortedBy}
use Rattle.std.specs.Option.{option_map_or}
use Rattle.std.specs.Ordering.{is_eq, is_lt}
use Rattle.std.specs.declared.cmp.Ordering.{Ordering}
use Rattle.std.specs.declared.cmp.Ordering.TheVariants.{Less, Equal}
use Rattle.std.proofs.lemmas.List.{get_or_default}
use Rattle.std.proofs.lemmas.List.Sorted.{IsPermutation-sym}
use Rattle.portal_base.specs.Ordered.{IsAscending, IsKey, are_apart, ascending, found}
use Rattle.portal_base.proofs.Halved.{IsAscending-adjacent, ascending_at}
use Rattle.portal_base.proofs.Inserted.{AreApart}
use Rattle.portal_base.proofs.Removed.{AreApart-are_apart, is_eq_true, none_above, removed-some}
use Rattle.portal_base.proofs.Sorted.{AreApart-permutation, IsAscending-sort, sort-ascending}
use Rattle.portal_base.proofs.Unique.{IsIn, IsIn-get_or, below_in}
use Rattle.portal_base.proofs.Upserted.{are_apart-IsAscending}

-- ---- sorted items

-- Whether each item is below the next one tells whether the list ascends.
pub adjacent-ascends : {X : Type 0} (cmp : X → X → Ordering) (o : IsTotalOrder cmp) (xs : List X) (r : Bool)
    → IsAllAdjacentAnswer (λ x y b. b ≡ is_lt (cmp x y)) xs r
    → (r ≡ true → IsAscending cmp xs) × (IsAscending cmp xs → r ≡ true)
adjacent-ascends cmp o xs true steps = (λ e. IsAscending-adjacent cmp o xs steps, λ up. refl)
adjacent-ascends cmp o [] false at = absurd (omega (arith, at.1))
adjacent-ascends cmp o (x ∷ rest) false at = (
  λ e. absurd (cc),
  λ up. at.2 x ∙ ap is_lt (ascending_at cmp x (x ∷ rest) up at.0 (at.0 + 1) (omega arith) at.1),
)

pub distinct-apart : {X : Type 0} (cmp : X → X → Ordering) (xs : List X) → AreApart cmp xs → are_apart cmp xs ≡ true
distinct-apart cmp [] apart = refl
distinct-apart cmp (x ∷ xs) apart =
    ap (λ b. not b && are_apart cmp xs) apart.0 ∙ distinct-apart cmp xs apart.1

-- If sorted items ascend, no two are equal, and they are the ascending list.
pub sorted-apart : {X : Type 0} (cmp : X → X → Ordering) (o : IsTotalOrder cmp) (xs ys : List X)
    → IsPermutation xs ys → IsSortedBy (λ x y. is_lt (cmp x y)) ys → IsAscending cmp ys
    → (are_apart cmp xs ≡ true) × (ys ≡ ascending cmp xs)
sorted-apart cmp o xs ys p sorted up =
    let apart : AreApart cmp xs =
    AreApart-permutation cmp o ys xs (IsPermutation-sym xs ys p)
    (AreApart-are_apart cmp ys (are_apart-IsAscending cmp o ys up)) in
    (distinct-apart cmp xs apart, sort-ascending cmp o xs ys apart p sorted)

-- If they don't ascend, two are equal.
pub sorted-equal : {X : Type 0} (cmp : X → X → Ordering) (o : IsTotalOrder cmp) (xs ys : List X)
    → IsPermutation xs ys → IsSortedBy (λ x y. is_lt (cmp x y)) ys → (IsAscending cmp ys → ⊥)
    → are_apart cmp xs ≡ false
sorted-equal cmp o xs ys p sorted never = by (are_apart cmp xs) refl
  where
    by : (b : Bool) → are_apart cmp xs ≡ b → b ≡ false
    by true is = absurd (never (IsAscending-sort cmp o xs ys (AreApart-are_apart cmp xs is) p sorted))
    by false is = refl

-- ---- the item with a key

or_false : (b : Bool) → (b || false) ≡ b
or_false true = refl
or_false false = refl

module _ {X : Type 0} (cmp : X → X → Ordering) (o : IsTotalOrder cmp) (at : X → Ordering) (key : IsKey cmp at) where
  -- the items, with only those that have the key changed
  abbrev pub changed_at : (X → X) → List X → List X
  changed_at change xs = map (λ x. cond (is_eq (at x)) (change x) x) xs

  -- Where no item has the key, nothing changes.
  pub changed_at-none : (change : X → X) (xs : List X) → found at xs ≡ None → changed_at change xs ≡ xs
  changed_at-none change [] none = refl
  changed_at-none change (x ∷ xs) none =
      let P : Bool → Type 0 = λ b. cond b (Some x) (found at xs) ≡ None
      → cond b (change x) x ∷ changed_at change xs ≡ x ∷ xs in
      (elim (is_eq (at x)) as P [
        | true ↦ λ e. absurd (cc)
        | false ↦ λ e. ap (λ l. x ∷ l) (changed_at-none change xs e)
      ]) none

  -- In an ascending list only the item at the place of the key changes.
  pub changed_at-set : (change : X → X) (xs : List X) → IsAscending cmp xs → (place : ℕ) (d : X) → place < length xs
      → at (get_or xs place d) ≡ Equal → changed_at change xs ≡ set xs place (change (get_or xs place d))
  changed_at-set change [] up place d lt here = absurd (omega arith)
  changed_at-set change (x ∷ xs) up zero d lt here =
      ap (λ r. cond (is_eq r) (change x) x ∷ changed_at change xs) here
      ∙ ap (λ l. change x ∷ l) (changed_at-none change xs (none_above cmp o at key x xs here up.0))
  changed_at-set change (x ∷ xs) up (suc place) d lt here =
      let within : place < length xs = omega arith in
      let z : X = get_or xs place d in
      let less : cmp x z ≡ Less =
      below_in cmp x z xs up.0 (IsIn-get_or z xs place within (get_or_default xs place z d within)) in
      let other : at x ≡ Less = key z x here ∙ less in
      ap (λ r. cond (is_eq r) (change x) x ∷ changed_at change xs) other
      ∙ ap (λ l. x ∷ l) (changed_at-set change xs up.1 place d within here)

  -- Whether one of the items has the key and passes the test, of which at most one has the key.
  pub any_found : (test : X → Bool) (xs : List X) → IsAscending cmp xs
      → list_any (λ x. is_eq (at x) && test x) xs ≡ option_map_or test (found at xs) false
  any_found test [] up = refl
  any_found test (x ∷ xs) up = by (is_eq (at x)) refl (any_found test xs up.1)
    where
      by : (b : Bool) → is_eq (at x) ≡ b
          → list_any (λ y. is_eq (at y) && test y) xs ≡ option_map_or test (found at xs) false
          → ((b && test x) || list_any (λ y. is_eq (at y) && test y) xs)
          ≡ option_map_or test (cond b (Some x) (found at xs)) false
      by true here rest =
          ap (λ b. test x || b)
          (rest ∙ ap (λ o. option_map_or test o false) (none_above cmp o at key x xs (is_eq_true _ here) up.0))
          ∙ or_false (test x)
      by false other rest = rest

  -- What is found has the key.
  pub found-here : (xs : List X) (z : X) → found at xs ≡ Some z → at z ≡ Equal
  found-here [] z e = absurd (cc)
  found-here (x ∷ xs) z e = by (is_eq (at x)) refl e (found-here xs z)
    where
      by : (b : Bool) → is_eq (at x) ≡ b → cond b (Some x) (found at xs) ≡ Some z
          → (found at xs ≡ Some z → at z ≡ Equal) → at z ≡ Equal
      by true here e rest = let same : x ≡ z = cc in subst (λ y. at y ≡ Equal) same (is_eq_true (at x) here)
      by false other e rest = rest e

  -- The item at the place of the key is the one that is found.
  pub placed : (xs : List X) (place : ℕ) (d : X) → position (λ x. is_eq (at x)) xs ≡ Some place
      → (found at xs ≡ Some (get_or xs place d)) × (at (get_or xs place d) ≡ Equal)
  placed xs place d is =
      let there : found at xs ≡ Some (get_or xs place d) = (removed-some at xs place is d).0 in
      (there, found-here xs (get_or xs place d) there)

  -- An item with the key is found, if the list ascends.
  pub found-IsIn : (xs : List X) (z : X) → IsAscending cmp xs → IsIn z xs → at z ≡ Equal → found at xs ≡ Some z
  found-IsIn [] z up m here = absurd m
  found-IsIn (x ∷ xs) z up (inl e) here =
      ap (λ r. cond (is_eq r) (Some x) (found at xs)) (subst (λ y. at y ≡ Equal) e here) ∙ ap Some (sym e)
  found-IsIn (x ∷ xs) z up (inr m) here =
      ap (λ r. cond (is_eq r) (Some x) (found at xs)) (key z x here ∙ below_in cmp x z xs up.0 m)
      ∙ found-IsIn xs z up.1 m here
