-- A sort of distinct items gives their ascending list.
use Rattle.std.proofs.Common.{◌≡◌, ℕ, suc, get_or, ◌+◌, ◌<◌, ◌≤◌, length, Bool, true, false, cond, ◌||◌, List, [], ◌∷◌}
use Rattle.std.proofs.Common.{refl, sym, ap, ◌∙◌, arith}
use Rattle.std.specs.declared.cmp.Ordering.{Ordering}
use Rattle.std.specs.declared.cmp.Ordering.TheVariants.{Less, Equal, Greater}
use Rattle.std.specs.Ordering.{is_lt, is_eq, ordering_reverse}
use Rattle.std.specs.Cmp.{IsTotalOrder}
use Rattle.std.specs.List.{list_any, sum_by}
use Rattle.std.specs.List.Sorted.{IsPermutation, IsSortedBy}
use Rattle.std.proofs.lemmas.Cmp.{tied_itself, alike_right}
use Rattle.std.proofs.lemmas.List.Sums.{sum_by-cons}
use Rattle.std.proofs.lemmas.List.Sorted.{sorted_far, ranks_by, sum_by-IsPermutation, Contains-permutation}
use Rattle.std.proofs.lemmas.List.Sorted.{IsPermutation-sym}
use Rattle.portal_base.specs.Ordered.{IsBelowAll, IsAscending, ascending}
use Rattle.portal_base.proofs.Inserted.{list_any-same, both_false, AreApart, IsAscending-ascending}
use Rattle.portal_base.proofs.Removed.{is_eq_true}
use Rattle.portal_base.proofs.Unique.{IsIn-Contains, Contains-IsIn, unique, IsIn-ascending, ascending-IsIn}

-- the number of items equal to z
abbrev pub count_like : {X : Type 0} → (X → X → Ordering) → X → List X → ℕ
count_like cmp z xs = sum_by (λ y. cond (is_eq (cmp y z)) 1 0) xs

count_like-cons : {X : Type 0} (cmp : X → X → Ordering) (z x : X) (xs : List X)
    → count_like cmp z (x ∷ xs) ≡ cond (is_eq (cmp x z)) 1 0 + count_like cmp z xs
count_like-cons cmp z x xs = sum_by-cons (λ y. cond (is_eq (cmp y z)) 1 0) x xs

-- If no item is equal to z, the number is 0.
pub count_none : {X : Type 0} (cmp : X → X → Ordering) (z : X) (xs : List X)
    → list_any (λ y. is_eq (cmp y z)) xs ≡ false → count_like cmp z xs ≡ 0
count_none cmp z [] n = refl
count_none {X} cmp z (x ∷ xs) n =
    let parts : (is_eq (cmp x z) ≡ false) × (list_any (λ y. is_eq (cmp y z)) xs ≡ false) = both_false _ _ n in
    let rest : count_like cmp z xs ≡ 0 = count_none cmp z xs parts.1 in
    count_like-cons cmp z x xs ∙ ap (λ b. cond b 1 0 + count_like cmp z xs) parts.0 ∙ rw rest refl

pub none_counted : {X : Type 0} (cmp : X → X → Ordering) (z : X) (xs : List X) → count_like cmp z xs ≡ 0
    → list_any (λ y. is_eq (cmp y z)) xs ≡ false
none_counted cmp z [] n = refl
none_counted {X} cmp z (x ∷ xs) n =
    let P : Bool → Type 0 =
    λ b. cond b 1 0 + count_like cmp z xs ≡ 0 → (b || list_any (λ y. is_eq (cmp y z)) xs) ≡ false in
    (elim (is_eq (cmp x z)) as P [
      | true ↦ λ e. absurd (omega arith)
      | false ↦ λ e. none_counted cmp z xs (omega arith)
    ]) (sym (count_like-cons cmp z x xs) ∙ n)

-- Of distinct items at most one is equal to z.
pub count_apart : {X : Type 0} (cmp : X → X → Ordering) (o : IsTotalOrder cmp) (z : X) (xs : List X)
    → AreApart cmp xs → count_like cmp z xs ≤ 1
count_apart cmp o z [] apart = omega arith
count_apart {X} cmp o z (x ∷ xs) apart =
    let P : Bool → Type 0 = λ b. is_eq (cmp x z) ≡ b → cond b 1 0 + count_like cmp z xs ≤ 1 in
    let rest : count_like cmp z xs ≤ 1 = count_apart cmp o z xs apart.1 in
    rw (count_like-cons cmp z x xs) ((elim (is_eq (cmp x z)) as P [
      | true ↦ λ e.
          let same : (y : X) → is_eq (cmp y z) ≡ is_eq (cmp y x) =
          λ y. sym (ap is_eq (alike_right o x z y (is_eq_true (cmp x z) e))) in
          let none : count_like cmp z xs ≡ 0 = count_none cmp z xs (list_any-same _ _ same xs ∙ apart.0) in
          omega arith
      | false ↦ λ e. omega arith
    ]) refl)

pub apart_count : {X : Type 0} (cmp : X → X → Ordering) (o : IsTotalOrder cmp) (xs : List X)
    → ((z : X) → count_like cmp z xs ≤ 1) → AreApart cmp xs
apart_count cmp o [] few = tt
apart_count {X} cmp o (x ∷ xs) few =
    let itself : cond {A = ℕ} (is_eq (cmp x x)) 1 0 ≡ 1 = ap (λ r. cond (is_eq r) 1 0) (tied_itself o x) in
    let here : cond (is_eq (cmp x x)) 1 0 + count_like cmp x xs ≤ 1 = rw (count_like-cons cmp x x xs) at (few x) in (
      none_counted cmp x xs (omega arith),
      apart_count cmp o xs
          (λ z. let all : cond (is_eq (cmp x z)) 1 0 + count_like cmp z xs ≤ 1 =
          rw (count_like-cons cmp z x xs) at (few z) in omega arith),
    )

-- A permutation of distinct items is distinct.
pub AreApart-permutation : {X : Type 0} (cmp : X → X → Ordering) (o : IsTotalOrder cmp) (xs ys : List X)
    → IsPermutation xs ys → AreApart cmp xs → AreApart cmp ys
AreApart-permutation cmp o xs ys p apart =
    apart_count cmp o ys (λ z. let few : count_like cmp z xs ≤ 1 = count_apart cmp o z xs apart in
    let same : count_like cmp z ys ≡ count_like cmp z xs =
    sum_by-IsPermutation (λ y. cond (is_eq (cmp y z)) 1 0) xs ys p in omega arith)

-- An item that is neither above x nor equal to it is below it.
below : {X : Type 0} (cmp : X → X → Ordering) (o : IsTotalOrder cmp) (x y : X) → is_lt (cmp y x) ≡ false
    → is_eq (cmp y x) ≡ false → cmp x y ≡ Less
below {X} cmp o x y l e =
    let back : cmp x y ≡ ordering_reverse (cmp y x) = o.antisymm x y in
    back ∙ greater (cmp y x) l e
  where
    greater : (r : Ordering) → is_lt r ≡ false → is_eq r ≡ false → ordering_reverse r ≡ Less
    greater Less p q = absurd (cc)
    greater Equal p q = absurd (cc)
    greater Greater p q = refl

-- x is below items that are neither below it nor equal to it.
pub IsBelowAll-sorted : {X : Type 0} (cmp : X → X → Ordering) (o : IsTotalOrder cmp) (x : X) (ys : List X)
    → ((k : ℕ) (d : X) → k < length ys → is_lt (cmp (get_or ys k d) x) ≡ false)
    → list_any (λ y. is_eq (cmp y x)) ys ≡ false → IsBelowAll cmp x ys
IsBelowAll-sorted cmp o x [] above apart = tt
IsBelowAll-sorted {X} cmp o x (y ∷ ys) above apart =
    let parts : (is_eq (cmp y x) ≡ false) × (list_any (λ z. is_eq (cmp z x)) ys ≡ false) = both_false _ _ apart in (
      below cmp o x y (above 0 x (omega arith)) parts.0,
      IsBelowAll-sorted cmp o x ys
          (λ k d lt. above (suc k) d (omega arith)) parts.1,
    )

-- Distinct sorted items strictly ascend.
pub IsAscending-sorted : {X : Type 0} (cmp : X → X → Ordering) (o : IsTotalOrder cmp) (xs : List X)
    → ((i j : ℕ) (d : X) → i ≤ j → j < length xs → is_lt (cmp (get_or xs j d) (get_or xs i d)) ≡ false)
    → AreApart cmp xs → IsAscending cmp xs
IsAscending-sorted cmp o [] up apart = tt
IsAscending-sorted cmp o (x ∷ xs) up apart = (
  IsBelowAll-sorted cmp o x xs (λ k d lt. up 0 (suc k) d (omega arith) (omega arith)) apart.0,
  IsAscending-sorted cmp o xs (λ i j d le lt. up (suc i) (suc j) d (omega arith) (omega arith)) apart.1,
)

pub IsAscending-sort : {X : Type 0} (cmp : X → X → Ordering) (o : IsTotalOrder cmp) (xs ys : List X)
    → AreApart cmp xs → IsPermutation xs ys → IsSortedBy (λ x y. is_lt (cmp x y)) ys → IsAscending cmp ys
IsAscending-sort cmp o xs ys apart p up =
    IsAscending-sorted cmp o ys
    (λ i j d le lt. sorted_far (λ x y. is_lt (cmp x y)) (ranks_by o (λ x. x)) ys up i j d le lt)
    (AreApart-permutation cmp o xs ys p apart)

-- The result of a sort.
pub sort-ascending : {X : Type 0} (cmp : X → X → Ordering) (o : IsTotalOrder cmp) (xs ys : List X) → AreApart cmp xs
    → IsPermutation xs ys → IsSortedBy (λ x y. is_lt (cmp x y)) ys → ys ≡ ascending cmp xs
sort-ascending cmp o xs ys apart p up =
    unique cmp o ys (ascending cmp xs) (IsAscending-sort cmp o xs ys apart p up) (IsAscending-ascending cmp o xs apart)
    (λ z m. IsIn-ascending cmp z xs
    (IsIn-Contains z xs (Contains-permutation ys xs z (IsPermutation-sym xs ys p) (Contains-IsIn z ys m))))
    (λ z m. IsIn-Contains z ys (Contains-permutation xs ys z p (Contains-IsIn z xs (ascending-IsIn cmp z xs m))))
