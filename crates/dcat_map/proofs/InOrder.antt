-- A sort gives all the items in ascending order.
use Rattle.std.proofs.Common.{◌≡◌, ℕ, suc, get_or, ◌+◌, ◌<◌, ◌≤◌, length, Bool, true, false, cond, List, [], ◌∷◌, refl}
use Rattle.std.proofs.Common.{sym, ap, ◌∙◌, arith, inl, inr, subst}
use Rattle.std.specs.declared.cmp.Ordering.{Ordering}
use Rattle.std.specs.declared.cmp.Ordering.TheVariants.{Less, Equal, Greater}
use Rattle.std.specs.Ordering.{is_lt, is_eq, ordering_reverse}
use Rattle.std.specs.Cmp.{IsTotalOrder}
use Rattle.std.specs.List.{AllByRecursion, sum_by}
use Rattle.std.specs.List.Sorted.{IsPermutation, IsSortedBy}
use Rattle.std.proofs.lemmas.Cmp.{tied_itself}
use Rattle.std.proofs.lemmas.List.Sums.{sum_by-cons}
use Rattle.std.proofs.lemmas.List.Sorted.{sorted_far, ranks_by, sum_by-IsPermutation}
use Rattle.portal_base.specs.Ordered.{inserted, ascending}
use Rattle.dcat_map.specs.Sets.{in_order}
use Rattle.dcat_map.proofs.SetLemmas.{TellsApart, IsIn}

-- each item is not above the later ones
abbrev IsRising : {X : Type 0} → (X → X → Ordering) → List X → Type 0
IsRising cmp [] = Unit {0}
IsRising cmp (x ∷ xs) = AllByRecursion (λ y. is_lt (cmp y x) ≡ false) xs × IsRising cmp xs

-- how many items are z
abbrev count_of : {X : Type 0} → (X → X → Ordering) → X → List X → ℕ
count_of cmp z xs = sum_by (λ y. cond (is_eq (cmp y z)) 1 0) xs

count_of-cons : {X : Type 0} (cmp : X → X → Ordering) (z x : X) (xs : List X)
    → count_of cmp z (x ∷ xs) ≡ cond (is_eq (cmp x z)) 1 0 + count_of cmp z xs
count_of-cons cmp z x xs = sum_by-cons (λ y. cond (is_eq (cmp y z)) 1 0) x xs

equal_from_is_eq : (r : Ordering) → is_eq r ≡ true → r ≡ Equal
equal_from_is_eq Less h = absurd (cc)
equal_from_is_eq Equal h = refl
equal_from_is_eq Greater h = absurd (cc)

-- What is counted is in the list.
IsIn-counted : {X : Type 0} (cmp : X → X → Ordering) → TellsApart cmp → (z : X) (xs : List X) → 0 < count_of cmp z xs
    → IsIn z xs
IsIn-counted cmp apart z [] h = absurd (omega arith)
IsIn-counted {X} cmp apart z (x ∷ xs) h =
    let all : 0 < cond (is_eq (cmp x z)) 1 0 + count_of cmp z xs = rw (count_of-cons cmp z x xs) at h in
    let P : Bool → Type 0 = λ b. is_eq (cmp x z) ≡ b → 0 < cond b 1 0 + count_of cmp z xs → IsIn z (x ∷ xs) in
    (elim (is_eq (cmp x z)) as P [
      | true ↦ λ e g. inl (sym (apart x z (equal_from_is_eq (cmp x z) e)))
      | false ↦ λ e g. inr (IsIn-counted cmp apart z xs (omega arith))
    ]) refl all

not_below : {X : Type 0} (cmp : X → X → Ordering) (x z : X) (xs : List X)
    → AllByRecursion (λ y. is_lt (cmp y x) ≡ false) xs → IsIn z xs → is_lt (cmp z x) ≡ false
not_below cmp x z [] h m = absurd m
not_below cmp x z (y ∷ ys) h (inl e) = rw e h.0
not_below cmp x z (y ∷ ys) h (inr m) = not_below cmp x z ys h.1 m

-- Neither of two is below the other only where they are the same.
same_by_both : {X : Type 0} (cmp : X → X → Ordering) (o : IsTotalOrder cmp) → TellsApart cmp → (x y : X)
    → is_lt (cmp x y) ≡ false → is_lt (cmp y x) ≡ false → x ≡ y
same_by_both {X} cmp o apart x y a b =
    let P : Ordering → Type 0 = λ r. cmp x y ≡ r → is_lt r ≡ false → x ≡ y in
    (elim (cmp x y) as P [
      | Less ↦ λ e f. absurd (cc)
      | Equal ↦ λ e f. apart x y e
      | Greater ↦ λ e f. absurd (turned (o.antisymm y x ∙ ap ordering_reverse e))
    ]) refl a
  where
    turned : cmp y x ≡ Less → ⊥
    turned e = let f : is_lt (cmp y x) ≡ true = ap is_lt e in cc

same_heads : {X : Type 0} (cmp : X → X → Ordering) (o : IsTotalOrder cmp) → TellsApart cmp
    → (x y : X) (xs ys : List X) → AllByRecursion (λ z. is_lt (cmp z x) ≡ false) xs
    → AllByRecursion (λ z. is_lt (cmp z y) ≡ false) ys → IsIn x (y ∷ ys) → IsIn y (x ∷ xs) → x ≡ y
same_heads cmp o apart x y xs ys ax ay (inl e) n = e
same_heads cmp o apart x y xs ys ax ay (inr m) (inl e) = sym e
same_heads cmp o apart x y xs ys ax ay (inr m) (inr n) =
    same_by_both cmp o apart x y (not_below cmp y x ys ay m) (not_below cmp x y xs ax n)

counted_itself : {X : Type 0} (cmp : X → X → Ordering) (o : IsTotalOrder cmp) (x : X) (xs : List X)
    → 0 < count_of cmp x (x ∷ xs)
counted_itself {X} cmp o x xs =
    let itself : cond {A = ℕ} (is_eq (cmp x x)) 1 0 ≡ 1 = ap (λ r. cond (is_eq r) 1 0) (tied_itself o x) in
    rw (count_of-cons cmp x x xs) (omega arith)

-- Two rising lists with as many of each item are the same list.
pub same_rising : {X : Type 0} (cmp : X → X → Ordering) (o : IsTotalOrder cmp) → TellsApart cmp → (xs ys : List X)
    → IsRising cmp xs → IsRising cmp ys → ((z : X) → count_of cmp z xs ≡ count_of cmp z ys) → xs ≡ ys
same_rising cmp o apart [] [] rx ry same = refl
same_rising {X} cmp o apart [] (y ∷ ys) rx ry same =
    let none : 0 ≡ count_of cmp y (y ∷ ys) = same y in
    let some : 0 < count_of cmp y (y ∷ ys) = counted_itself cmp o y ys in
    absurd (omega arith)
same_rising {X} cmp o apart (x ∷ xs) [] rx ry same =
    let none : count_of cmp x (x ∷ xs) ≡ 0 = same x in
    let some : 0 < count_of cmp x (x ∷ xs) = counted_itself cmp o x xs in
    absurd (omega arith)
same_rising {X} cmp o apart (x ∷ xs) (y ∷ ys) rx ry same =
    let e : x ≡ y = same_heads cmp o apart x y xs ys rx.0 ry.0
    (IsIn-counted cmp apart x (y ∷ ys) (subst (λ n. 0 < n) (same x) (counted_itself cmp o x xs)))
    (IsIn-counted cmp apart y (x ∷ xs) (subst (λ n. 0 < n) (sym (same y)) (counted_itself cmp o y ys))) in
    let tails : xs ≡ ys =
    same_rising cmp o apart xs ys rx.1 ry.1
    (λ z. rest e z (count_of-cons cmp z x xs) (count_of-cons cmp z y ys) (same z)) in
    cc
  where
    rest : x ≡ y → (z : X) → count_of cmp z (x ∷ xs) ≡ cond (is_eq (cmp x z)) 1 0 + count_of cmp z xs
        → count_of cmp z (y ∷ ys) ≡ cond (is_eq (cmp y z)) 1 0 + count_of cmp z ys
        → count_of cmp z (x ∷ xs) ≡ count_of cmp z (y ∷ ys) → count_of cmp z xs ≡ count_of cmp z ys
    rest e z a b s =
        let heads : cond {A = ℕ} (is_eq (cmp x z)) 1 0 ≡ cond (is_eq (cmp y z)) 1 0 =
        ap (λ w. cond (is_eq (cmp w z)) 1 0) e in
        omega arith

-- What is not below x is kept by the insertion of something that is not below x.
not_below-inserted : {X : Type 0} (cmp : X → X → Ordering) (a x : X) (xs : List X) → is_lt (cmp x a) ≡ false
    → AllByRecursion (λ y. is_lt (cmp y a) ≡ false) xs
    → AllByRecursion (λ y. is_lt (cmp y a) ≡ false) (inserted cmp x xs)
not_below-inserted cmp a x [] h hs = (h, tt)
not_below-inserted {X} cmp a x (y ∷ ys) h hs =
    let P : Bool → Type 0 =
    λ b. AllByRecursion (λ z. is_lt (cmp z a) ≡ false) (cond b (y ∷ inserted cmp x ys) (x ∷ y ∷ ys)) in
    elim (is_lt (cmp y x)) as P [ true ↦ (hs.0, not_below-inserted cmp a x ys h hs.1) | false ↦ (h, hs) ]

-- What is not below y is not below x, where x isn't above y.
not_below-lower : {X : Type 0} (cmp : X → X → Ordering) (o : IsTotalOrder cmp) (x y : X) (ys : List X)
    → ((z : X) → is_lt (cmp z y) ≡ false → is_lt (cmp z x) ≡ false)
    → AllByRecursion (λ z. is_lt (cmp z y) ≡ false) ys → AllByRecursion (λ z. is_lt (cmp z x) ≡ false) ys
not_below-lower cmp o x y [] f h = tt
not_below-lower cmp o x y (z ∷ zs) f h = (f z h.0, not_below-lower cmp o x y zs f h.1)

lower : {X : Type 0} (cmp : X → X → Ordering) (o : IsTotalOrder cmp) (x y z : X) → cmp x y ≡ Less
    → is_lt (cmp z y) ≡ false → is_lt (cmp z x) ≡ false
lower {X} cmp o x y z e h =
    let P : Ordering → Type 0 = λ r. cmp z x ≡ r → is_lt r ≡ false in
    (elim (cmp z x) as P [
      | Less ↦ λ f. absurd (far (o.trans z x y f e))
      | Equal ↦ λ f. refl
      | Greater ↦ λ f. refl
    ]) refl
  where
    far : cmp z y ≡ Less → ⊥
    far f = let g : is_lt (cmp z y) ≡ true = ap is_lt f in cc

IsRising-inserted : {X : Type 0} (cmp : X → X → Ordering) (o : IsTotalOrder cmp) → TellsApart cmp
    → (x : X) (xs : List X) → IsRising cmp xs → IsRising cmp (inserted cmp x xs)
IsRising-inserted cmp o apart x [] up = (tt, tt)
IsRising-inserted {X} cmp o apart x (y ∷ ys) up =
    let P : Ordering → Type 0 =
    λ r. cmp y x ≡ r → IsRising cmp (cond (is_lt r) (y ∷ inserted cmp x ys) (x ∷ y ∷ ys)) in
    (elim (cmp y x) as P [
      | Less ↦ λ e.
          let above : is_lt (cmp x y) ≡ false = ap is_lt (o.antisymm x y ∙ ap ordering_reverse e) in
          (not_below-inserted cmp y x ys above up.0, IsRising-inserted cmp o apart x ys up.1)
      | Equal ↦ λ e. alike (sym (apart y x e))
      | Greater ↦ λ e.
          let below : cmp x y ≡ Less = o.antisymm x y ∙ ap ordering_reverse e in
          ((ap is_lt e, not_below-lower cmp o x y ys (λ z. lower cmp o x y z below) up.0), up)
    ]) refl
  where
    alike : x ≡ y → IsRising cmp (x ∷ y ∷ ys)
    alike e = subst (λ w. IsRising cmp (w ∷ y ∷ ys)) (sym e) ((ap is_lt (tied_itself o y), up.0), up)

IsRising-ascending : {X : Type 0} (cmp : X → X → Ordering) (o : IsTotalOrder cmp) → TellsApart cmp → (xs : List X)
    → IsRising cmp (ascending cmp xs)
IsRising-ascending cmp o apart [] = tt
IsRising-ascending cmp o apart (x ∷ xs) =
    IsRising-inserted cmp o apart x (ascending cmp xs) (IsRising-ascending cmp o apart xs)

count_of-inserted : {X : Type 0} (cmp : X → X → Ordering) (z x : X) (xs : List X)
    → count_of cmp z (inserted cmp x xs) ≡ cond (is_eq (cmp x z)) 1 0 + count_of cmp z xs
count_of-inserted cmp z x [] = count_of-cons cmp z x []
count_of-inserted {X} cmp z x (y ∷ ys) =
    let P : Bool → Type 0 =
    λ b. count_of cmp z (cond b (y ∷ inserted cmp x ys) (x ∷ y ∷ ys))
    ≡ cond (is_eq (cmp x z)) 1 0 + count_of cmp z (y ∷ ys) in
    let here : count_of cmp z (x ∷ y ∷ ys) ≡ cond (is_eq (cmp x z)) 1 0 + count_of cmp z (y ∷ ys) =
    count_of-cons cmp z x (y ∷ ys) in
    let later : count_of cmp z (y ∷ inserted cmp x ys) ≡ cond (is_eq (cmp x z)) 1 0 + count_of cmp z (y ∷ ys) =
    swapped _ _ _ _ _ _ (count_of-cons cmp z y (inserted cmp x ys)) (count_of-inserted cmp z x ys)
    (count_of-cons cmp z y ys) in
    elim (is_lt (cmp y x)) as P [ true ↦ later | false ↦ here ]
  where
    swapped : (a b c d e f : ℕ) → a ≡ b + c → c ≡ d + e → f ≡ b + e → a ≡ d + f
    swapped a b c d e f p q r = omega arith

count_of-ascending : {X : Type 0} (cmp : X → X → Ordering) (z : X) (xs : List X)
    → count_of cmp z (ascending cmp xs) ≡ count_of cmp z xs
count_of-ascending cmp z [] = refl
count_of-ascending {X} cmp z (x ∷ xs) =
    count_of-inserted cmp z x (ascending cmp xs)
    ∙ ap (λ n. cond (is_eq (cmp x z)) 1 0 + n) (count_of-ascending cmp z xs)
    ∙ sym (count_of-cons cmp z x xs)

rising_head : {X : Type 0} (cmp : X → X → Ordering) (x : X) (ys : List X)
    → ((k : ℕ) (d : X) → k < length ys → is_lt (cmp (get_or ys k d) x) ≡ false)
    → AllByRecursion (λ y. is_lt (cmp y x) ≡ false) ys
rising_head cmp x [] up = tt
rising_head cmp x (y ∷ ys) up = (up 0 x (omega arith), rising_head cmp x ys (λ k d lt. up (suc k) d (omega arith)))

IsRising-sorted : {X : Type 0} (cmp : X → X → Ordering) (xs : List X)
    → ((i j : ℕ) (d : X) → i ≤ j → j < length xs → is_lt (cmp (get_or xs j d) (get_or xs i d)) ≡ false)
    → IsRising cmp xs
IsRising-sorted cmp [] up = tt
IsRising-sorted cmp (x ∷ xs) up = (
  rising_head cmp x xs (λ k d lt. up 0 (suc k) d (omega arith) (omega arith)),
  IsRising-sorted cmp xs (λ i j d le lt. up (suc i) (suc j) d (omega arith) (omega arith)),
)

-- What a sort gives.
pub in_order-sort : {X : Type 0} (cmp : X → X → Ordering) (o : IsTotalOrder cmp) → TellsApart cmp → (xs ys : List X)
    → IsPermutation xs ys → IsSortedBy (λ x y. is_lt (cmp x y)) ys → ys ≡ in_order cmp xs
unfolding in_order
in_order-sort cmp o apart xs ys moved up =
    same_rising cmp o apart ys (ascending cmp xs)
    (IsRising-sorted cmp ys
    (λ i j d le lt. sorted_far (λ x y. is_lt (cmp x y)) (ranks_by o (λ x. x)) ys up i j d le lt))
    (IsRising-ascending cmp o apart xs)
    (λ z. sum_by-IsPermutation (λ y. cond (is_eq (cmp y z)) 1 0) xs ys moved ∙ sym (count_of-ascending cmp z xs))
