-- What the ascending list of a set holds, and that sorting gives it.
use Rattle.std.proofs.Common.{◌≡◌, Bool, true, List, [], ◌∷◌, refl, sym, ap, ◌∙◌}
use Rattle.std.proofs.Common.{inl, inr}
use Rattle.std.specs.declared.cmp.Ordering.{Ordering}
use Rattle.std.specs.declared.cmp.Ordering.TheVariants.{Less, Equal, Greater}
use Rattle.std.specs.Ordering.{is_eq, eq_by_cmp, match_ordering, ordering_reverse}
use Rattle.std.specs.Cmp.{IsTotalOrder, IsEquivalence}
use Rattle.std.specs.List.{AllByRecursion, dedup}
use Rattle.std.specs.List.Sorted.{IsPermutation, IsSorted, IsStrictlySortedBy}
use Rattle.std.proofs.lemmas.Cmp.{eq_by_cmp_equiv}
use Rattle.std.proofs.lemmas.List.Kept.{IsStrictlySortedBy-dedup, Contains-dedup, Contains-from_dedup}
use Rattle.std.proofs.lemmas.List.Sorted.{Contains-permutation, IsPermutation-sym}
use Rattle.portal_base.specs.Ordered.{IsBelowAll, IsAscending}
use Rattle.portal_base.proofs.Unique.{unique}
pub use Rattle.portal_base.proofs.Unique.{IsIn, IsIn-Contains, Contains-IsIn}
use Rattle.dcat_map.specs.Sets.{set_insert, ascending_set, HaveSameItems}

-- items that the order makes equal are the same
abbrev pub TellsApart : {X : Type 0} → (X → X → Ordering) → Type 0
TellsApart {X} cmp = (x y : X) → cmp x y ≡ Equal → x ≡ y

-- What is in a list is above whatever is below all of it.
pub below_in : {X : Type 0} (cmp : X → X → Ordering) (a z : X) (xs : List X)
    → AllByRecursion (λ y. cmp a y ≡ Less) xs → IsIn z xs → cmp a z ≡ Less
below_in cmp a z [] below m = absurd m
below_in cmp a z (x ∷ xs) below (inl e) = rw e below.0
below_in cmp a z (x ∷ xs) below (inr m) = below_in cmp a z xs below.1 m

-- What is below all by std's word is below all.
IsBelowAll-from : {X : Type 0} (cmp : X → X → Ordering) (x : X) (xs : List X)
    → AllByRecursion (λ y. cmp x y ≡ Less) xs → IsBelowAll cmp x xs
IsBelowAll-from cmp x [] below = tt
IsBelowAll-from cmp x (y ∷ ys) below = (below.0, IsBelowAll-from cmp x ys below.1)

-- A list in strict order by std's word ascends.
IsAscending-from : {X : Type 0} (cmp : X → X → Ordering) (xs : List X)
    → IsStrictlySortedBy cmp xs → IsAscending cmp xs
unfolding IsStrictlySortedBy
IsAscending-from cmp [] up = tt
IsAscending-from cmp (x ∷ xs) up = (IsBelowAll-from cmp x xs up.0, IsAscending-from cmp xs up.1)

-- What is placed into a list, and the items of the list, are in it afterwards.
pub IsIn-set_insert : {X : Type 0} (cmp : X → X → Ordering) → TellsApart cmp → (z x : X) (xs : List X) → IsIn z (x ∷ xs)
    → IsIn z (set_insert cmp x xs)
IsIn-set_insert cmp apart z x [] m = m
IsIn-set_insert {X} cmp apart z x (y ∷ ys) m =
    let P : Ordering → Type 0 =
    λ r. cmp x y ≡ r → IsIn z (match_ordering r (x ∷ y ∷ ys) (y ∷ ys) (y ∷ set_insert cmp x ys)) in
    (elim (cmp x y) as P [
      | Less ↦ λ e. m
      | Equal ↦ λ e. alike (apart x y e) m
      | Greater ↦ λ e. utc_offset (IsIn-set_insert cmp apart z x ys) m
    ]) refl
  where
    alike : x ≡ y → IsIn z (x ∷ y ∷ ys) → IsIn z (y ∷ ys)
    alike e (inl f) = inl (f ∙ e)
    alike e (inr n) = n

    utc_offset : (IsIn z (x ∷ ys) → IsIn z (set_insert cmp x ys)) → IsIn z (x ∷ y ∷ ys) → IsIn z (y ∷ set_insert cmp x ys)
    utc_offset go (inl e) = inr (go (inl e))
    utc_offset go (inr (inl e)) = inl e
    utc_offset go (inr (inr n)) = inr (go (inr n))

-- Nothing else is in it.
pub set_insert-IsIn : {X : Type 0} (cmp : X → X → Ordering) (z x : X) (xs : List X) → IsIn z (set_insert cmp x xs)
    → IsIn z (x ∷ xs)
set_insert-IsIn cmp z x [] m = m
set_insert-IsIn {X} cmp z x (y ∷ ys) m =
    let P : Ordering → Type 0 =
    λ r. IsIn z (match_ordering r (x ∷ y ∷ ys) (y ∷ ys) (y ∷ set_insert cmp x ys)) → IsIn z (x ∷ y ∷ ys) in
    (elim (cmp x y) as P [ Less ↦ λ n. n | Equal ↦ λ n. inr n | Greater ↦ λ n. following (set_insert-IsIn cmp z x ys) n ]) m
  where
    further : IsIn z (x ∷ ys) → IsIn z (x ∷ y ∷ ys)
    further (inl e) = inl e
    further (inr n) = inr (inr n)

    following : (IsIn z (set_insert cmp x ys) → IsIn z (x ∷ ys)) → IsIn z (y ∷ set_insert cmp x ys) → IsIn z (x ∷ y ∷ ys)
    following go (inl e) = inr (inl e)
    following go (inr n) = further (go n)

-- What is below an item is below all that the item is below.
below_trans : {X : Type 0} (cmp : X → X → Ordering) (o : IsTotalOrder cmp) (a x : X) (xs : List X) → cmp a x ≡ Less
    → AllByRecursion (λ y. cmp x y ≡ Less) xs → AllByRecursion (λ y. cmp a y ≡ Less) xs
below_trans cmp o a x [] h hs = tt
below_trans cmp o a x (y ∷ ys) h hs = (o.trans a x y h hs.0, below_trans cmp o a x ys h hs.1)

-- What is below the item and below all others is below all.
below-set_insert : {X : Type 0} (cmp : X → X → Ordering) (a x : X) (xs : List X) → cmp a x ≡ Less
    → AllByRecursion (λ y. cmp a y ≡ Less) xs → AllByRecursion (λ y. cmp a y ≡ Less) (set_insert cmp x xs)
below-set_insert cmp a x [] h hs = (h, tt)
below-set_insert {X} cmp a x (y ∷ ys) h hs =
    let P : Ordering → Type 0 =
    λ r. AllByRecursion (λ z. cmp a z ≡ Less) (match_ordering r (x ∷ y ∷ ys) (y ∷ ys) (y ∷ set_insert cmp x ys)) in
    elim (cmp x y) as P [ Less ↦ (h, hs) | Equal ↦ hs | Greater ↦ (hs.0, below-set_insert cmp a x ys h hs.1) ]

pub IsStrictlySortedBy-set_insert : {X : Type 0} (cmp : X → X → Ordering) (o : IsTotalOrder cmp) (x : X) (xs : List X)
    → IsStrictlySortedBy cmp xs → IsStrictlySortedBy cmp (set_insert cmp x xs)
unfolding IsStrictlySortedBy
IsStrictlySortedBy-set_insert cmp o x [] up = (tt, tt)
IsStrictlySortedBy-set_insert {X} cmp o x (y ∷ ys) up =
    let P : Ordering → Type 0 =
    λ r. cmp x y ≡ r → IsStrictlySortedBy cmp (match_ordering r (x ∷ y ∷ ys) (y ∷ ys) (y ∷ set_insert cmp x ys)) in
    (elim (cmp x y) as P [
      | Less ↦ λ e. ((e, below_trans cmp o x y ys e up.0), up)
      | Equal ↦ λ e. up
      | Greater ↦ λ e. let below : cmp y x ≡ Less = o.antisymm y x ∙ ap ordering_reverse e in
          (below-set_insert cmp y x ys below up.0, IsStrictlySortedBy-set_insert cmp o x ys up.1)
    ]) refl

pub IsStrictlySortedBy-ascending_set : {X : Type 0} (cmp : X → X → Ordering) (o : IsTotalOrder cmp) (xs : List X)
    → IsStrictlySortedBy cmp (ascending_set cmp xs)
unfolding IsStrictlySortedBy ascending_set
IsStrictlySortedBy-ascending_set cmp o [] = tt
IsStrictlySortedBy-ascending_set cmp o (x ∷ xs) =
    IsStrictlySortedBy-set_insert cmp o x (ascending_set cmp xs) (IsStrictlySortedBy-ascending_set cmp o xs)

-- The set has the items.
pub IsIn-ascending_set : {X : Type 0} (cmp : X → X → Ordering) → TellsApart cmp → (z : X) (xs : List X) → IsIn z xs
    → IsIn z (ascending_set cmp xs)
unfolding ascending_set
IsIn-ascending_set cmp apart z [] m = m
IsIn-ascending_set cmp apart z (x ∷ xs) (inl e) = IsIn-set_insert cmp apart z x (ascending_set cmp xs) (inl e)
IsIn-ascending_set cmp apart z (x ∷ xs) (inr m) =
    IsIn-set_insert cmp apart z x (ascending_set cmp xs) (inr (IsIn-ascending_set cmp apart z xs m))

-- It has nothing else.
pub ascending_set-IsIn : {X : Type 0} (cmp : X → X → Ordering) (z : X) (xs : List X) → IsIn z (ascending_set cmp xs)
    → IsIn z xs
unfolding ascending_set
ascending_set-IsIn cmp z [] m = m
ascending_set-IsIn {X} cmp z (x ∷ xs) m =
    back (ascending_set-IsIn cmp z xs) (set_insert-IsIn cmp z x (ascending_set cmp xs) m)
  where
    back : (IsIn z (ascending_set cmp xs) → IsIn z xs) → IsIn z (x ∷ ascending_set cmp xs) → IsIn z (x ∷ xs)
    back go (inl e) = inl e
    back go (inr n) = inr (go n)

-- An ascending list with the same items is the set.
pub ascending_set-from_sorted : {X : Type 0} (cmp : X → X → Ordering) (o : IsTotalOrder cmp) → TellsApart cmp
    → (xs ys : List X) → IsStrictlySortedBy cmp ys → ((z : X) → IsIn z xs → IsIn z ys)
    → ((z : X) → IsIn z ys → IsIn z xs) → ys ≡ ascending_set cmp xs
ascending_set-from_sorted cmp o apart xs ys up to from =
    unique cmp o ys (ascending_set cmp xs) (IsAscending-from cmp ys up)
    (IsAscending-from cmp (ascending_set cmp xs) (IsStrictlySortedBy-ascending_set cmp o xs))
    (λ z m. IsIn-ascending_set cmp apart z xs (from z m))
    (λ z m. to z (ascending_set-IsIn cmp z xs m))

equal_from_is_eq : (r : Ordering) → is_eq r ≡ true → r ≡ Equal
equal_from_is_eq Less h = absurd (cc)
equal_from_is_eq Equal h = refl
equal_from_is_eq Greater h = absurd (cc)

-- What a sort and then `dedup` leave, where `==` holds just at ties.
pub ascending_set-dedup_by : {X : Type 0} (cmp : X → X → Ordering) (o : IsTotalOrder cmp) → TellsApart cmp
    → (E : X → X → Bool) → IsEquivalence E → ((x y : X) → E x y ≡ eq_by_cmp cmp x y) → (xs ys : List X)
    → IsPermutation xs ys → IsSorted cmp ys → dedup E ys ≡ ascending_set cmp xs
ascending_set-dedup_by cmp o apart E equal ties xs ys moved up =
    ascending_set-from_sorted cmp o apart xs (dedup E ys) (IsStrictlySortedBy-dedup o ties ys up)
    (λ z m. IsIn-Contains z _
    (Contains-dedup equal (λ x y h. apart x y (equal_from_is_eq (cmp x y) (sym (ties x y) ∙ h))) ys z
    (Contains-permutation xs ys z moved (Contains-IsIn z xs m))))
    (λ z m. IsIn-Contains z xs
    (Contains-permutation ys xs z (IsPermutation-sym xs ys moved)
    (Contains-from_dedup E ys z (Contains-IsIn z _ m))))

-- The same where `==` is the order's tie.
pub ascending_set-dedup : {X : Type 0} (cmp : X → X → Ordering) (o : IsTotalOrder cmp) → TellsApart cmp
    → (xs ys : List X) → IsPermutation xs ys → IsSorted cmp ys → dedup (eq_by_cmp cmp) ys ≡ ascending_set cmp xs
ascending_set-dedup cmp o apart = ascending_set-dedup_by cmp o apart (eq_by_cmp cmp) (eq_by_cmp_equiv o) (λ x y. refl)

-- Lists with the same items are of one set.
pub same_set : {X : Type 0} (cmp : X → X → Ordering) (o : IsTotalOrder cmp) → TellsApart cmp → (xs ys : List X)
    → HaveSameItems xs ys → ascending_set cmp xs ≡ ascending_set cmp ys
same_set cmp o apart xs ys same =
    ascending_set-from_sorted cmp o apart ys (ascending_set cmp xs) (IsStrictlySortedBy-ascending_set cmp o xs)
    (λ z m. IsIn-ascending_set cmp apart z xs (IsIn-Contains z xs ((same z).1 (Contains-IsIn z ys m))))
    (λ z m. IsIn-Contains z ys ((same z).0 (Contains-IsIn z xs (ascending_set-IsIn cmp z xs m))))
