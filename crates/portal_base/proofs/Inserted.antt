-- Insertion into an ascending list: order and look-ups.
use Rattle.std.proofs.Common.{◌≡◌, ℕ, suc, ◌+◌, Bool, true, false, cond, ◌||◌, List, [], ◌∷◌, Some, None, refl, ap}
use Rattle.std.proofs.Common.{◌∙◌, arith}
use Rattle.std.specs.Prelude.{insert, Result, Ok, Err, OnOk, is_ok}
use Rattle.std.specs.declared.cmp.Ordering.{Ordering}
use Rattle.std.specs.declared.cmp.Ordering.TheVariants.{Less, Equal, Greater}
use Rattle.std.specs.Ordering.{is_lt, is_eq, ordering_reverse}
use Rattle.std.specs.Cmp.{IsTotalOrder}
use Rattle.std.specs.List.{prefix_len, list_any, find}
use Rattle.portal_base.specs.Ordered.{IsBelowAll, IsAscending, inserted, ascending}

-- The insertion is std's `insert` after the items that are below.
pub insert-prefix_len : {X : Type 0} (cmp : X → X → Ordering) (x : X) (xs : List X)
    → insert xs (prefix_len (λ y. is_lt (cmp y x)) xs) x ≡ inserted cmp x xs
insert-prefix_len cmp x [] = refl
insert-prefix_len {X} cmp x (y ∷ ys) =
    let P : Bool → Type 0 =
    λ b. insert (y ∷ ys) (cond b (1 + prefix_len (λ z. is_lt (cmp z x)) ys) 0) x
    ≡ cond b (y ∷ inserted cmp x ys) (x ∷ y ∷ ys) in
    elim (is_lt (cmp y x)) as P [
      | true ↦ rw add_one_left (ap (λ l. y ∷ l) (insert-prefix_len cmp x ys))
      | false ↦ refl
    ]
  where
    add_one_left : (n : ℕ) → 1 + n ≡ suc n
    add_one_left n = omega arith

-- The same for the result of `insert`.
pub inserted_if_ok : {X E : Type 0} (cmp : X → X → Ordering) (x : X) (xs ys : List X) (r : Result Unit E) (i : ℕ)
    → i ≡ prefix_len (λ y. is_lt (cmp y x)) xs → ys ≡ cond (is_ok r) (insert xs i x) xs
    → OnOk r (ys ≡ inserted cmp x xs)
inserted_if_ok cmp x xs ys (Ok u) i index e = e ∙ ap (λ n. insert xs n x) index ∙ insert-prefix_len cmp x xs
inserted_if_ok cmp x xs ys (Err u) i index e = tt

-- A test passes an item of the list with x exactly if it passes x or an item of the list.
pub list_any-inserted : {X : Type 0} (cmp : X → X → Ordering) (test : X → Bool) (x : X) (xs : List X)
    → list_any test (inserted cmp x xs) ≡ (test x || list_any test xs)
list_any-inserted cmp test x [] = refl
list_any-inserted cmp test x (y ∷ ys) =
    let P : Bool → Type 0 =
    λ b. list_any test (cond b (y ∷ inserted cmp x ys) (x ∷ y ∷ ys)) ≡ (test x || (test y || list_any test ys)) in
    elim (is_lt (cmp y x)) as P [
      | true ↦ ap (λ b. test y || b) (list_any-inserted cmp test x ys) ∙ exchange (test y) (test x) _
      | false ↦ refl
    ]
  where
    exchange : (a b c : Bool) → (a || (b || c)) ≡ (b || (a || c))
    exchange true true c = refl
    exchange true false c = refl
    exchange false true c = refl
    exchange false false c = refl

-- If an `||` is false both parts are.
pub both_false : (a b : Bool) → (a || b) ≡ false → (a ≡ false) × (b ≡ false)
both_false true b h = absurd (cc)
both_false false b h = (refl, h)

-- The inserted item is found if no other item passes the test.
pub find-inserted_found : {X : Type 0} (cmp : X → X → Ordering) (test : X → Bool) (x : X) (xs : List X)
    → test x ≡ true → list_any test xs ≡ false → find test (inserted cmp x xs) ≡ Some x
find-inserted_found cmp test x [] t n = ap (λ b. cond b (Some x) None) t
find-inserted_found cmp test x (y ∷ ys) t n =
    let P : Bool → Type 0 = λ b. find test (cond b (y ∷ inserted cmp x ys) (x ∷ y ∷ ys)) ≡ Some x in
    let parts : (test y ≡ false) × (list_any test ys ≡ false) = both_false (test y) _ n in
    elim (is_lt (cmp y x)) as P [
      | true ↦ ap (λ b. cond b (Some y) (find test (inserted cmp x ys))) parts.0
          ∙ find-inserted_found cmp test x ys t parts.1
      | false ↦ ap (λ b. cond b (Some x) (find test (y ∷ ys))) t
    ]

-- An inserted item that fails the test does not change what is found.
pub find-inserted_other : {X : Type 0} (cmp : X → X → Ordering) (test : X → Bool) (x : X) (xs : List X)
    → test x ≡ false → find test (inserted cmp x xs) ≡ find test xs
find-inserted_other cmp test x [] f = ap (λ b. cond b (Some x) None) f
find-inserted_other cmp test x (y ∷ ys) f =
    let P : Bool → Type 0 = λ b. find test (cond b (y ∷ inserted cmp x ys) (x ∷ y ∷ ys)) ≡ find test (y ∷ ys) in
    elim (is_lt (cmp y x)) as P [
      | true ↦ ap (λ o. cond (test y) (Some y) o) (find-inserted_other cmp test x ys f)
      | false ↦ ap (λ b. cond b (Some x) (find test (y ∷ ys))) f
    ]

-- If nothing is found no item passes.
pub list_any-find : {X : Type 0} (test : X → Bool) (xs : List X) → find test xs ≡ None → list_any test xs ≡ false
list_any-find test [] h = refl
list_any-find {X} test (x ∷ xs) h =
    let P : Bool → Type 0 = λ b. cond b (Some x) (find test xs) ≡ None → (b || list_any test xs) ≡ false in
    (elim (test x) as P [ true ↦ λ e. absurd (cc) | false ↦ λ e. list_any-find test xs e ]) h

-- Two tests that agree give the same result.
pub list_any-same : {X : Type 0} (p q : X → Bool) → ((x : X) → p x ≡ q x) → (xs : List X)
    → list_any p xs ≡ list_any q xs
list_any-same p q e [] = refl
list_any-same p q e (x ∷ xs) = ap (λ b. b || list_any p xs) (e x) ∙ ap (λ b. q x || b) (list_any-same p q e xs)

-- An item below the inserted one and below all others is below all.
pub IsBelowAll-inserted : {X : Type 0} (cmp : X → X → Ordering) (a x : X) (xs : List X) → cmp a x ≡ Less
    → IsBelowAll cmp a xs → IsBelowAll cmp a (inserted cmp x xs)
IsBelowAll-inserted cmp a x [] h hs = (h, tt)
IsBelowAll-inserted cmp a x (y ∷ ys) h hs =
    let P : Bool → Type 0 = λ b. IsBelowAll cmp a (cond b (y ∷ inserted cmp x ys) (x ∷ y ∷ ys)) in
    elim (is_lt (cmp y x)) as P [ true ↦ (hs.0, IsBelowAll-inserted cmp a x ys h hs.1) | false ↦ (h, hs) ]

-- An item below x is below everything that x is below.
pub IsBelowAll-trans : {X : Type 0} (cmp : X → X → Ordering) (o : IsTotalOrder cmp) (a x : X) (xs : List X)
    → cmp a x ≡ Less → IsBelowAll cmp x xs → IsBelowAll cmp a xs
IsBelowAll-trans cmp o a x [] h hs = tt
IsBelowAll-trans cmp o a x (y ∷ ys) h hs = (o.trans a x y h hs.0, IsBelowAll-trans cmp o a x ys h hs.1)

-- The insertion keeps the order if no item is equal to x.
pub IsAscending-inserted : {X : Type 0} (cmp : X → X → Ordering) (o : IsTotalOrder cmp) (x : X) (xs : List X)
    → IsAscending cmp xs → list_any (λ y. is_eq (cmp y x)) xs ≡ false → IsAscending cmp (inserted cmp x xs)
IsAscending-inserted cmp o x [] up apart = (tt, tt)
IsAscending-inserted {X} cmp o x (y ∷ ys) up apart =
    let parts : (is_eq (cmp y x) ≡ false) × (list_any (λ z. is_eq (cmp z x)) ys ≡ false) =
    both_false (is_eq (cmp y x)) _ apart in
    let P : Ordering → Type 0 =
    λ r. cmp y x ≡ r → is_eq r ≡ false → IsAscending cmp (cond (is_lt r) (y ∷ inserted cmp x ys) (x ∷ y ∷ ys)) in
    (elim (cmp y x) as P [
      | Less ↦ λ e n. (IsBelowAll-inserted cmp y x ys e up.0, IsAscending-inserted cmp o x ys up.1 parts.1)
      | Equal ↦ λ e n. absurd (cc)
      | Greater ↦ λ e n. let below : cmp x y ≡ Less = o.antisymm x y ∙ ap ordering_reverse e in
          ((below, IsBelowAll-trans cmp o x y ys below up.0), up)
    ]) refl parts.0

-- Sorting does not change whether an item passes a test.
pub list_any-ascending : {X : Type 0} (cmp : X → X → Ordering) (test : X → Bool) (xs : List X)
    → list_any test (ascending cmp xs) ≡ list_any test xs
list_any-ascending cmp test [] = refl
list_any-ascending cmp test (x ∷ xs) =
    list_any-inserted cmp test x (ascending cmp xs) ∙ ap (λ b. test x || b) (list_any-ascending cmp test xs)

-- no item is equal to a later one
abbrev pub AreApart : {X : Type 0} → (X → X → Ordering) → List X → Type 0
AreApart cmp [] = Unit {0}
AreApart cmp (x ∷ xs) = (list_any (λ y. is_eq (cmp y x)) xs ≡ false) × AreApart cmp xs

-- If no two items are equal, the sorted items strictly ascend.
pub IsAscending-ascending : {X : Type 0} (cmp : X → X → Ordering) (o : IsTotalOrder cmp) (xs : List X)
    → AreApart cmp xs → IsAscending cmp (ascending cmp xs)
IsAscending-ascending cmp o [] apart = tt
IsAscending-ascending cmp o (x ∷ xs) apart =
    IsAscending-inserted cmp o x (ascending cmp xs) (IsAscending-ascending cmp o xs apart.1)
    (list_any-ascending cmp (λ y. is_eq (cmp y x)) xs ∙ apart.0)
