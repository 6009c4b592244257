-- The items in an order, and the first of them, which a selection finds: those before an item around which the list is
-- split.
use Rattle.std.proofs.Common.{◌≡◌, ◌∙◌, ℕ, zero, suc, ◌<◌, ◌≤◌, Bool, true, false, cond, ◌||◌, List, [], ◌∷◌, ◌++◌}
use Rattle.std.proofs.Common.{ap, ap₂, refl, sym, take, length, get_or, arith, inl, inr, not, ◌&&◌, ◌⊎◌}
use Rattle.std.specs.Prelude.{IsTrue}
use Rattle.std.specs.declared.cmp.Ordering.{Ordering}
use Rattle.std.specs.declared.cmp.Ordering.TheVariants.{Less, Equal, Greater}
use Rattle.std.specs.Ordering.{is_eq, is_lt, ordering_reverse}
use Rattle.std.specs.Cmp.{IsTotalOrder}
use Rattle.std.specs.List.{list_any}
use Rattle.std.specs.List.Sorted.{IsPermutation, IsSorted, IsSplitAround}
use Rattle.std.proofs.lemmas.List.{take_all, take_at}
use Rattle.std.proofs.lemmas.List.Sorted.{Contains-permutation, IsPermutation-cons, IsPermutation-middle, IsPermutation-refl}
use Rattle.std.proofs.lemmas.List.Sorted.{IsPermutation-sym, IsPermutation-trans}
use Rattle.portal_base.specs.Ordered.{IsAscending, IsBelowAll, are_apart, ascending, inserted}
use Rattle.portal_base.proofs.Inserted.{AreApart, IsAscending-ascending, both_false}
use Rattle.portal_base.proofs.Removed.{AreApart-are_apart}
use Rattle.portal_base.proofs.Sorted.{AreApart-permutation, IsBelowAll-sorted, sort-ascending}
use Rattle.portal_base.proofs.Unique.{Contains-IsIn, IsIn, IsIn-Contains, IsIn-ascending, ascending-IsIn, below_in, unique}
use Rattle.sorted_pages.proofs.MemberLemmas.{IsIn-back, IsIn-either, IsIn-front}

-- ---- lengths

inserted-length : {X : Type 0} (cmp : X → X → Ordering) (x : X) (xs : List X) → length (inserted cmp x xs) ≡ suc (length xs)
inserted-length cmp x [] = refl
inserted-length {X} cmp x (y ∷ ys) =
    let P : Bool → Type 0 = λ b. length (cond b (y ∷ inserted cmp x ys) (x ∷ y ∷ ys)) ≡ suc (suc (length ys)) in
    elim (is_lt (cmp y x)) as P [ true ↦ ap suc (inserted-length cmp x ys) | false ↦ refl ]

-- The sorted list is as long as the list.
pub ascending-length : {X : Type 0} (cmp : X → X → Ordering) (xs : List X) → length (ascending cmp xs) ≡ length xs
ascending-length cmp [] = refl
ascending-length cmp (x ∷ xs) = inserted-length cmp x (ascending cmp xs) ∙ ap suc (ascending-length cmp xs)

-- ---- each item as often

inserted-permutes : {X : Type 0} (cmp : X → X → Ordering) (x : X) (xs : List X)
    → IsPermutation (x ∷ xs) (inserted cmp x xs)
inserted-permutes cmp x [] = IsPermutation-refl (x ∷ [])
inserted-permutes {X} cmp x (y ∷ ys) = by (is_lt (cmp y x)) (inserted-permutes cmp x ys)
  where
    by : (b : Bool) → IsPermutation (x ∷ ys) (inserted cmp x ys)
        → IsPermutation (x ∷ y ∷ ys) (cond b (y ∷ inserted cmp x ys) (x ∷ y ∷ ys))
    by true more =
        IsPermutation-trans (x ∷ y ∷ ys) (y ∷ x ∷ ys) (y ∷ inserted cmp x ys) (IsPermutation-middle (x ∷ []) y ys)
        (IsPermutation-cons y (x ∷ ys) (inserted cmp x ys) more)
    by false more = IsPermutation-refl (x ∷ y ∷ ys)

pub ascending-permutes : {X : Type 0} (cmp : X → X → Ordering) (xs : List X) → IsPermutation xs (ascending cmp xs)
ascending-permutes cmp [] = IsPermutation-refl []
ascending-permutes cmp (x ∷ xs) =
    IsPermutation-trans (x ∷ xs) (x ∷ ascending cmp xs) (inserted cmp x (ascending cmp xs))
    (IsPermutation-cons x xs (ascending cmp xs) (ascending-permutes cmp xs))
    (inserted-permutes cmp x (ascending cmp xs))

-- ---- items of which no two are equal

above : (r : Ordering) → r ≡ Less → is_eq (ordering_reverse r) ≡ false
above Less e = refl
above Equal e = absurd (cc)
above Greater e = absurd (cc)

none_alike : {X : Type 0} (base : X → X → Ordering) (o : IsTotalOrder base) (cmp : X → X → Ordering)
    → ((x y : X) → is_eq (base x y) ≡ false → is_eq (cmp x y) ≡ false) → (x : X) (ys : List X) → IsBelowAll base x ys
    → list_any (λ y. is_eq (cmp y x)) ys ≡ false
none_alike base o cmp finer x [] below = refl
none_alike base o cmp finer x (y ∷ ys) below =
    let back : is_eq (base y x) ≡ false = ap is_eq (o.antisymm y x) ∙ above (base x y) below.0 in
    ap₂ (λ a b. a || b) (finer y x back) (none_alike base o cmp finer x ys below.1)

-- No two items are equal in an order that tells apart whatever another order tells apart, if they ascend by that one.
pub finer-apart : {X : Type 0} (base : X → X → Ordering) (o : IsTotalOrder base) (cmp : X → X → Ordering)
    → ((x y : X) → is_eq (base x y) ≡ false → is_eq (cmp x y) ≡ false) → (xs : List X) → IsAscending base xs
    → IsTrue (are_apart cmp xs)
finer-apart base o cmp finer [] up = refl
finer-apart base o cmp finer (x ∷ xs) up =
    ap₂ (λ a b. not a && b) (none_alike base o cmp finer x xs up.0) (finer-apart base o cmp finer xs up.1)

-- The sorted list of a rearranged list is the sorted list.
pub ascending-permutation : {X : Type 0} (cmp : X → X → Ordering) (xs ys : List X) → IsTotalOrder cmp
    → IsTrue (are_apart cmp xs) → IsPermutation xs ys → ascending cmp xs ≡ ascending cmp ys
ascending-permutation {X} cmp xs ys o distinct moved =
    unique cmp o (ascending cmp xs) (ascending cmp ys) (IsAscending-ascending cmp o xs apart)
    (IsAscending-ascending cmp o ys (AreApart-permutation cmp o xs ys moved apart))
    (λ z m. IsIn-ascending cmp z ys (within xs ys moved z (ascending-IsIn cmp z xs m)))
    (λ z m. IsIn-ascending cmp z xs (within ys xs (IsPermutation-sym xs ys moved) z (ascending-IsIn cmp z ys m)))
  where
    apart : AreApart cmp xs
    apart = AreApart-are_apart cmp xs distinct

    within : (before after : List X) → IsPermutation before after → (z : X) → IsIn z before → IsIn z after
    within before after p z m =
        IsIn-Contains z after (Contains-permutation before after z p (Contains-IsIn z before m))

-- ---- a test that no item passes

-- Where no item passes the test, a member doesn't.
fails_in : {X : Type 0} (test : X → Bool) (z : X) (xs : List X) → list_any test xs ≡ false → IsIn z xs → test z ≡ false
fails_in test z [] none m = absurd m
fails_in test z (x ∷ xs) none (inl e) = ap test e ∙ (both_false (test x) (list_any test xs) none).0
fails_in test z (x ∷ xs) none (inr m) = fails_in test z xs (both_false (test x) (list_any test xs) none).1 m

-- ---- two ascending lists, the one below the other

below_each : {X : Type 0} (cmp : X → X → Ordering) (x : X) (ys : List X) → ((y : X) → IsIn y ys → cmp x y ≡ Less)
    → IsBelowAll cmp x ys
below_each cmp x [] all = tt
below_each cmp x (y ∷ ys) all = (all y (inl refl), below_each cmp x ys (λ z m. all z (inr m)))

IsBelowAll-append : {X : Type 0} (cmp : X → X → Ordering) (a : X) (xs ys : List X) → IsBelowAll cmp a xs
    → IsBelowAll cmp a ys → IsBelowAll cmp a (xs ++ ys)
IsBelowAll-append cmp a [] ys front back = back
IsBelowAll-append cmp a (x ∷ xs) ys front back = (front.0, IsBelowAll-append cmp a xs ys front.1 back)

IsAscending-append : {X : Type 0} (cmp : X → X → Ordering) (xs ys : List X) → IsAscending cmp xs → IsAscending cmp ys
    → ((x y : X) → IsIn x xs → IsIn y ys → cmp x y ≡ Less) → IsAscending cmp (xs ++ ys)
IsAscending-append cmp [] ys front back below = back
IsAscending-append cmp (x ∷ xs) ys front back below = (
  IsBelowAll-append cmp x xs ys front.0 (below_each cmp x ys (λ y m. below x y (inl refl) m)),
  IsAscending-append cmp xs ys front.1 back (λ a b m n. below a b (inr m) n),
)

-- ---- a selection

AreApart-back : {X : Type 0} (cmp : X → X → Ordering) (xs ys : List X) → AreApart cmp (xs ++ ys) → AreApart cmp ys
AreApart-back cmp [] ys apart = apart
AreApart-back cmp (x ∷ xs) ys apart = AreApart-back cmp xs ys apart.1

AreApart-front : {X : Type 0} (cmp : X → X → Ordering) (xs ys : List X) → AreApart cmp (xs ++ ys) → AreApart cmp xs
AreApart-front cmp [] ys apart = tt
AreApart-front {X} cmp (x ∷ xs) ys apart =
    (none xs apart.0, AreApart-front cmp xs ys apart.1)
  where
    none : (zs : List X) → list_any (λ y. is_eq (cmp y x)) (zs ++ ys) ≡ false
        → list_any (λ y. is_eq (cmp y x)) zs ≡ false
    none [] e = refl
    none (z ∷ zs) e =
        let parts : (is_eq (cmp z x) ≡ false) × (list_any (λ y. is_eq (cmp y x)) (zs ++ ys) ≡ false) =
        both_false _ _ e in
        ap (λ b. b || list_any (λ y. is_eq (cmp y x)) zs) parts.0 ∙ none zs parts.1

-- An item of which the other is not less, and that isn't equal to it, is below it.
below_one : {X : Type 0} (cmp : X → X → Ordering) (o : IsTotalOrder cmp) (a x : X) → is_lt (cmp x a) ≡ false
    → is_eq (cmp x a) ≡ false → cmp a x ≡ Less
below_one {X} cmp o a x least apart =
    (IsBelowAll-sorted cmp o a (x ∷ []) at (ap (λ b. b || false) apart)).0
  where
    at : (k : ℕ) (d : X) → k < 1 → is_lt (cmp (get_or (x ∷ []) k d) a) ≡ false
    at zero d lt = least
    at (suc k) d lt = absurd (omega arith)

-- Items before the item around which the list is split are below it.
front_below : {X : Type 0} (cmp : X → X → Ordering) (o : IsTotalOrder cmp) (front : List X) (x : X) (back : List X)
    → AreApart cmp (front ++ x ∷ back)
    → ((k : ℕ) (d : X) → k < length front → is_lt (cmp x (get_or front k d)) ≡ false) → (a : X) → IsIn a front
    → cmp a x ≡ Less
front_below cmp o [] x back apart least a m = absurd m
front_below {X} cmp o (y ∷ front) x back apart least a (inl e) =
    let other : is_eq (cmp x y) ≡ false =
    fails_in (λ z. is_eq (cmp z y)) x (front ++ x ∷ back) apart.0 (IsIn-back x front (x ∷ back) (inl refl)) in
    ap (λ z. cmp z x) e ∙ below_one cmp o y x (least 0 x (omega arith)) other
front_below cmp o (y ∷ front) x back apart least a (inr m) =
    front_below cmp o front x back apart.1 (λ k d lt. least (suc k) d (omega arith)) a m

-- The first items of the sorted list are the sorted items before the one around which the list is split.
pub select_first : {X : Type 0} (cmp : X → X → Ordering) (o : IsTotalOrder cmp) (xs front : List X) (x : X)
    (back : List X) (count : ℕ) → AreApart cmp xs → IsPermutation xs (front ++ x ∷ back)
    → IsSplitAround cmp front x back → length front ≡ count → ascending cmp front ≡ take count (ascending cmp xs)
select_first {X} cmp o xs front x back count apart moved split long =
    sym (take_at (ascending cmp front) (ascending cmp (x ∷ back)) count (ascending-length cmp front ∙ long))
    ∙ ap (take count) (unique cmp o (ascending cmp front ++ ascending cmp (x ∷ back)) (ascending cmp xs) up
    (IsAscending-ascending cmp o xs apart) to from)
  where
    apart_there : AreApart cmp (front ++ x ∷ back)
    apart_there = AreApart-permutation cmp o xs (front ++ x ∷ back) moved apart

    apart_back : AreApart cmp (x ∷ back)
    apart_back = AreApart-back cmp front (x ∷ back) apart_there

    x_below : IsBelowAll cmp x back
    x_below = IsBelowAll-sorted cmp o x back split.1 apart_back.0

    below : (a b : X) → IsIn a (ascending cmp front) → IsIn b (ascending cmp (x ∷ back)) → cmp a b ≡ Less
    below a b m n = at (ascending-IsIn cmp b (x ∷ back) n)
      where
        less : cmp a x ≡ Less
        less = front_below cmp o front x back apart_there split.0 a (ascending-IsIn cmp a front m)

        at : IsIn b (x ∷ back) → cmp a b ≡ Less
        at (inl e) = ap (cmp a) e ∙ less
        at (inr p) = o.trans a x b less (below_in cmp x b back x_below p)

    up : IsAscending cmp (ascending cmp front ++ ascending cmp (x ∷ back))
    up = IsAscending-append cmp (ascending cmp front) (ascending cmp (x ∷ back))
        (IsAscending-ascending cmp o front (AreApart-front cmp front (x ∷ back) apart_there))
        (IsAscending-ascending cmp o (x ∷ back) apart_back) below

    to : (z : X) → IsIn z (ascending cmp front ++ ascending cmp (x ∷ back)) → IsIn z (ascending cmp xs)
    to z m = IsIn-ascending cmp z xs (IsIn-Contains z xs (Contains-permutation (front ++ x ∷ back) xs z
        (IsPermutation-sym xs (front ++ x ∷ back) moved) (Contains-IsIn z (front ++ x ∷ back)
        (at (IsIn-either z (ascending cmp front) (ascending cmp (x ∷ back)) m)))))
      where
        at : IsIn z (ascending cmp front) ⊎ IsIn z (ascending cmp (x ∷ back)) → IsIn z (front ++ x ∷ back)
        at (inl n) = IsIn-front z front (x ∷ back) (ascending-IsIn cmp z front n)
        at (inr n) = IsIn-back z front (x ∷ back) (ascending-IsIn cmp z (x ∷ back) n)

    from : (z : X) → IsIn z (ascending cmp xs) → IsIn z (ascending cmp front ++ ascending cmp (x ∷ back))
    from z m = at (IsIn-either z front (x ∷ back) (IsIn-Contains z (front ++ x ∷ back)
        (Contains-permutation xs (front ++ x ∷ back) z moved (Contains-IsIn z xs (ascending-IsIn cmp z xs m)))))
      where
        at : IsIn z front ⊎ IsIn z (x ∷ back) → IsIn z (ascending cmp front ++ ascending cmp (x ∷ back))
        at (inl n) = IsIn-front z (ascending cmp front) (ascending cmp (x ∷ back)) (IsIn-ascending cmp z front n)
        at (inr n) = IsIn-back z (ascending cmp front) (ascending cmp (x ∷ back)) (IsIn-ascending cmp z (x ∷ back) n)

-- The same for the result of a sort of the items before it.
pub select_sorted : {X : Type 0} (cmp : X → X → Ordering) (o : IsTotalOrder cmp) (xs front : List X) (x : X)
    (back sorted : List X) (count : ℕ) → AreApart cmp xs → IsPermutation xs (front ++ x ∷ back)
    → IsSplitAround cmp front x back → length front ≡ count → IsPermutation front sorted → IsSorted cmp sorted
    → sorted ≡ take count (ascending cmp xs)
select_sorted cmp o xs front x back sorted count apart moved split long within up =
    sort-ascending cmp o front sorted
    (AreApart-front cmp front (x ∷ back) (AreApart-permutation cmp o xs (front ++ x ∷ back) moved apart)) within up
    ∙ select_first cmp o xs front x back count apart moved split long

-- The result of a sort of all items, of which there aren't more.
pub all_sorted : {X : Type 0} (cmp : X → X → Ordering) (o : IsTotalOrder cmp) (xs sorted : List X) (count : ℕ)
    → AreApart cmp xs → length xs ≤ count → IsPermutation xs sorted → IsSorted cmp sorted
    → sorted ≡ take count (ascending cmp xs)
all_sorted cmp o xs sorted count apart few within up =
    let long : length (ascending cmp xs) ≡ length xs = ascending-length cmp xs in
    sort-ascending cmp o xs sorted apart within up
    ∙ sym (take_all count (ascending cmp xs) (omega arith))
