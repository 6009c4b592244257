-- Members of lists that are put together or made of others, and lists that ascend.
use Rattle.std.proofs.Common.{◌≡◌, Bool, true, false, cond, List, [], ◌∷◌, ◌++◌, map, ◌⊎◌, inl, inr, refl, sym, ap}
use Rattle.std.proofs.Common.{◌∙◌, subst}
use Rattle.std.specs.Cmp.{IsTotalOrder}
use Rattle.std.specs.List.{Contains, flat_map}
use Rattle.std.specs.Ordering.{is_lt, ordering_reverse}
use Rattle.std.specs.declared.cmp.Ordering.{Ordering}
use Rattle.std.specs.declared.cmp.Ordering.TheVariants.{Less, Equal, Greater}
use Rattle.std.proofs.lemmas.List.Elements.{Contains-append_cases, Contains-append_left, Contains-append_right}
use Rattle.portal_base.specs.Ordered.{IsAscending, IsBelowAll, ascending, inserted}
use Rattle.portal_base.proofs.Removed.{inserted_front}
use Rattle.portal_base.proofs.Unique.{Contains-IsIn, IsIn, IsIn-Contains, ascending-IsIn, below_in}
use Rattle.datastore_table.proofs.PairLemmas.{IsBelowAll-each}

-- ---- members of two lists

pub in_front : {X : Type 0} (z : X) (xs ys : List X) → IsIn z xs → IsIn z (xs ++ ys)
in_front z xs ys m = IsIn-Contains z (xs ++ ys) (Contains-append_left xs ys z (Contains-IsIn z xs m))

pub in_back : {X : Type 0} (z : X) (xs ys : List X) → IsIn z ys → IsIn z (xs ++ ys)
in_back z xs ys m = IsIn-Contains z (xs ++ ys) (Contains-append_right xs ys z (Contains-IsIn z ys m))

pub in_either : {X : Type 0} (z : X) (xs ys : List X) → IsIn z (xs ++ ys) → IsIn z xs ⊎ IsIn z ys
in_either {X} z xs ys m = by (Contains-append_cases xs ys z (Contains-IsIn z (xs ++ ys) m))
  where
    by : Contains xs z ⊎ Contains ys z → IsIn z xs ⊎ IsIn z ys
    by (inl c) = inl (IsIn-Contains z xs c)
    by (inr c) = inr (IsIn-Contains z ys c)

-- ---- members of several lists

pub IsIn-flat_map : {X Y : Type 0} (f : X → List Y) (z : Y) (x : X) (xs : List X) → IsIn x xs → IsIn z (f x)
    → IsIn z (flat_map f xs)
IsIn-flat_map f z x [] m n = absurd m
IsIn-flat_map {X} f z x (y ∷ ys) (inl same) n =
    in_front z (f y) (flat_map f ys) (subst (λ (w : X). IsIn z (f w)) same n)
IsIn-flat_map f z x (y ∷ ys) (inr m) n = in_back z (f y) (flat_map f ys) (IsIn-flat_map f z x ys m n)

pub flat_map-IsIn : {X Y : Type 0} (f : X → List Y) (z : Y) (xs : List X) → IsIn z (flat_map f xs)
    → (x : X) × IsIn x xs × IsIn z (f x)
flat_map-IsIn f z [] m = absurd m
flat_map-IsIn {X} {Y} f z (x ∷ xs) m = by (flat_map-IsIn f z xs) (in_either z (f x) (flat_map f xs) m)
  where
    by : (IsIn z (flat_map f xs) → (y : X) × IsIn y xs × IsIn z (f y)) → IsIn z (f x) ⊎ IsIn z (flat_map f xs)
        → (y : X) × IsIn y (x ∷ xs) × IsIn z (f y)
    by go (inl n) = (x, inl refl, n)
    by go (inr n) = let w = go n in (w.0, inr w.1, w.2)

-- One of the lists has one more item: all of them have that item and the old ones.
pub grown-IsIn : {X Y : Type 0} (f : X → List Y) (x w : X) (y z : Y) (before after : List X) → f w ≡ f x ++ y ∷ []
    → IsIn z (flat_map f (before ++ w ∷ after)) → IsIn z (flat_map f (before ++ x ∷ after)) ⊎ (z ≡ y)
grown-IsIn {X} {Y} f x w y z [] after e m = by (in_either z (f w) (flat_map f after) m)
  where
    one : IsIn z (f x) ⊎ IsIn z (y ∷ []) → IsIn z (f x ++ flat_map f after) ⊎ (z ≡ y)
    one (inl n) = inl (in_front z (f x) (flat_map f after) n)
    one (inr (inl same)) = inr same
    one (inr (inr none)) = absurd none

    by : IsIn z (f w) ⊎ IsIn z (flat_map f after) → IsIn z (f x ++ flat_map f after) ⊎ (z ≡ y)
    by (inl n) = one (in_either z (f x) (y ∷ []) (subst (IsIn z) e n))
    by (inr n) = inl (in_back z (f x) (flat_map f after) n)
grown-IsIn {X} {Y} f x w y z (b ∷ before) after e m =
    by (in_either z (f b) (flat_map f (before ++ w ∷ after)) m) (grown-IsIn f x w y z before after e)
  where
    by : IsIn z (f b) ⊎ IsIn z (flat_map f (before ++ w ∷ after))
        → (IsIn z (flat_map f (before ++ w ∷ after)) → IsIn z (flat_map f (before ++ x ∷ after)) ⊎ (z ≡ y))
        → IsIn z (f b ++ flat_map f (before ++ x ∷ after)) ⊎ (z ≡ y)
    by (inl n) go = inl (in_front z (f b) (flat_map f (before ++ x ∷ after)) n)
    by (inr n) go = more (go n)
      where
        more : IsIn z (flat_map f (before ++ x ∷ after)) ⊎ (z ≡ y)
            → IsIn z (f b ++ flat_map f (before ++ x ∷ after)) ⊎ (z ≡ y)
        more (inl k) = inl (in_back z (f b) (flat_map f (before ++ x ∷ after)) k)
        more (inr same) = inr same

pub IsIn-grown : {X Y : Type 0} (f : X → List Y) (x w : X) (y z : Y) (before after : List X) → f w ≡ f x ++ y ∷ []
    → IsIn z (flat_map f (before ++ x ∷ after)) ⊎ (z ≡ y) → IsIn z (flat_map f (before ++ w ∷ after))
IsIn-grown {X} {Y} f x w y z before after e (inr same) =
    IsIn-flat_map f z w (before ++ w ∷ after) (in_back w before (w ∷ after) (inl refl))
    (subst (IsIn z) (sym e) (in_back z (f x) (y ∷ []) (inl same)))
IsIn-grown {X} {Y} f x w y z before after e (inl m) =
    let from = flat_map-IsIn f z (before ++ x ∷ after) m in
    by from.0 from.2 (in_either from.0 before (x ∷ after) from.1)
  where
    by : (u : X) → IsIn z (f u) → IsIn u before ⊎ IsIn u (x ∷ after) → IsIn z (flat_map f (before ++ w ∷ after))
    by u n (inl k) = IsIn-flat_map f z u (before ++ w ∷ after) (in_front u before (w ∷ after) k) n
    by u n (inr (inl same)) =
        IsIn-flat_map f z w (before ++ w ∷ after) (in_back w before (w ∷ after) (inl refl))
        (subst (IsIn z) (sym e) (in_front z (f x) (y ∷ []) (subst (λ (v : X). IsIn z (f v)) same n)))
    by u n (inr (inr k)) = IsIn-flat_map f z u (before ++ w ∷ after) (in_back u before (w ∷ after) (inr k)) n

-- ---- lists whose items are made of others

pub same_made : {X Y : Type 0} (f : X → Y) (xs ys : List X)
    → ((x y : X) → IsIn x xs → IsIn y ys → f x ≡ f y → x ≡ y) → map f xs ≡ map f ys → xs ≡ ys
same_made f [] [] one e = refl
same_made f [] (y ∷ ys) one e = absurd (cc)
same_made f (x ∷ xs) [] one e = absurd (cc)
same_made f (x ∷ xs) (y ∷ ys) one e =
    let first : x ≡ y = one x y (inl refl) (inl refl) (cc) in
    let rest : xs ≡ ys = same_made f xs ys (λ w z m n. one w z (inr m) (inr n)) (cc) in
    cc

below-made : {X Y : Type 0} (f : X → Y) (own : X → X → Ordering) (cmp : Y → Y → Ordering) (x : X) (ys : List X)
    → ((y : X) → IsIn y ys → own x y ≡ Less → cmp (f x) (f y) ≡ Less) → IsBelowAll own x ys
    → IsBelowAll cmp (f x) (map f ys)
below-made f own cmp x [] less below = tt
below-made f own cmp x (y ∷ ys) less below =
    (less y (inl refl) below.0, below-made f own cmp x ys (λ z m. less z (inr m)) below.1)

-- The made items ascend where the items do,
pub ascending-made : {X Y : Type 0} (f : X → Y) (own : X → X → Ordering) (cmp : Y → Y → Ordering) (xs : List X)
    → ((x y : X) → IsIn x xs → IsIn y xs → own x y ≡ Less → cmp (f x) (f y) ≡ Less) → IsAscending own xs
    → IsAscending cmp (map f xs)
ascending-made f own cmp [] less up = tt
ascending-made f own cmp (x ∷ xs) less up = (
  below-made f own cmp x xs (λ y m. less x y (inl refl) (inr m)) up.0,
  ascending-made f own cmp xs (λ w y m n. less w y (inr m) (inr n)) up.1,
)

made-below : {X Y : Type 0} (f : X → Y) (own : X → X → Ordering) (cmp : Y → Y → Ordering) (x : X) (ys : List X)
    → ((y : X) → cmp (f x) (f y) ≡ Less → own x y ≡ Less) → IsBelowAll cmp (f x) (map f ys) → IsBelowAll own x ys
made-below f own cmp x [] less below = tt
made-below f own cmp x (y ∷ ys) less below = (less y below.0, made-below f own cmp x ys less below.1)

-- and the items where the made ones do.
pub made-ascending : {X Y : Type 0} (f : X → Y) (own : X → X → Ordering) (cmp : Y → Y → Ordering) (xs : List X)
    → ((x y : X) → cmp (f x) (f y) ≡ Less → own x y ≡ Less) → IsAscending cmp (map f xs) → IsAscending own xs
made-ascending f own cmp [] less up = tt
made-ascending f own cmp (x ∷ xs) less up =
    (made-below f own cmp x xs (less x) up.0, made-ascending f own cmp xs less up.1)

-- ---- one ascending list after another

-- each item of the first list is below each of the second
abbrev pub AreBelow : {X : Type 0} → (X → X → Ordering) → List X → List X → Type 0
AreBelow {X} cmp xs ys = (x y : X) → IsIn x xs → IsIn y ys → cmp x y ≡ Less

below_both : {X : Type 0} (cmp : X → X → Ordering) (x : X) (xs ys : List X) → IsBelowAll cmp x xs
    → ((y : X) → IsIn y ys → cmp x y ≡ Less) → IsBelowAll cmp x (xs ++ ys)
below_both cmp x [] ys below more = IsBelowAll-each cmp x ys more
below_both cmp x (z ∷ xs) ys below more = (below.0, below_both cmp x xs ys below.1 more)

pub IsAscending-append : {X : Type 0} (cmp : X → X → Ordering) (xs ys : List X) → IsAscending cmp xs
    → IsAscending cmp ys → AreBelow cmp xs ys → IsAscending cmp (xs ++ ys)
IsAscending-append cmp [] ys up also less = also
IsAscending-append cmp (x ∷ xs) ys up also less = (
  below_both cmp x xs ys up.0 (λ y m. less x y (inl refl) m),
  IsAscending-append cmp xs ys up.1 also (λ w y m n. less w y (inr m) n),
)

below_front : {X : Type 0} (cmp : X → X → Ordering) (x : X) (xs ys : List X) → IsBelowAll cmp x (xs ++ ys)
    → IsBelowAll cmp x xs
below_front cmp x [] ys below = tt
below_front cmp x (z ∷ xs) ys below = (below.0, below_front cmp x xs ys below.1)

pub IsAscending-front : {X : Type 0} (cmp : X → X → Ordering) (xs ys : List X) → IsAscending cmp (xs ++ ys)
    → IsAscending cmp xs
IsAscending-front cmp [] ys up = tt
IsAscending-front cmp (x ∷ xs) ys up = (below_front cmp x xs ys up.0, IsAscending-front cmp xs ys up.1)

pub IsAscending-back : {X : Type 0} (cmp : X → X → Ordering) (xs ys : List X) → IsAscending cmp (xs ++ ys)
    → IsAscending cmp ys
IsAscending-back cmp [] ys up = up
IsAscending-back cmp (x ∷ xs) ys up = IsAscending-back cmp xs ys up.1

-- The last item is above the others.
pub below_last : {X : Type 0} (cmp : X → X → Ordering) (xs : List X) (z x : X) → IsAscending cmp (xs ++ z ∷ [])
    → IsIn x xs → cmp x z ≡ Less
below_last cmp [] z x up m = absurd m
below_last {X} cmp (y ∷ ys) z x up (inl same) =
    subst (λ (w : X). cmp w z ≡ Less) (sym same)
    (below_in cmp y z (ys ++ z ∷ []) up.0 (in_back z ys (z ∷ []) (inl refl)))
below_last cmp (y ∷ ys) z x up (inr m) = below_last cmp ys z x up.1 m

-- Two members of an ascending list that are equal by the comparison are one.
pub one_member : {X : Type 0} (cmp : X → X → Ordering) (o : IsTotalOrder cmp) (x y : X) (xs : List X)
    → IsAscending cmp xs → IsIn x xs → IsIn y xs → cmp x y ≡ Equal → x ≡ y
one_member cmp o x y [] up m n e = absurd m
one_member cmp o x y (z ∷ zs) up (inl first) (inl second) e = first ∙ sym second
one_member {X} cmp o x y (z ∷ zs) up (inl first) (inr n) e =
    let less : cmp x y ≡ Less = subst (λ (w : X). cmp w y ≡ Less) (sym first) (below_in cmp z y zs up.0 n) in
    absurd (cc)
one_member {X} cmp o x y (z ∷ zs) up (inr m) (inl second) e =
    let less : cmp y x ≡ Less = subst (λ (w : X). cmp w x ≡ Less) (sym second) (below_in cmp z x zs up.0 m) in
    let greater : cmp x y ≡ Greater = o.antisymm x y ∙ ap ordering_reverse less in
    absurd (cc)
one_member cmp o x y (z ∷ zs) up (inr m) (inr n) e = one_member cmp o x y zs up.1 m n e

-- ---- the ascending list of several lists

inserted-before : {X : Type 0} (cmp : X → X → Ordering) (o : IsTotalOrder cmp) (x : X) (xs ys : List X)
    → ((y : X) → IsIn y ys → cmp x y ≡ Less) → inserted cmp x (xs ++ ys) ≡ inserted cmp x xs ++ ys
inserted-before cmp o x [] ys less = inserted_front cmp o x ys (IsBelowAll-each cmp x ys less)
inserted-before {X} cmp o x (z ∷ xs) ys less =
    let P : Bool → Type 0 =
    λ b. cond b (z ∷ inserted cmp x (xs ++ ys)) (x ∷ z ∷ (xs ++ ys))
    ≡ cond b (z ∷ inserted cmp x xs) (x ∷ z ∷ xs) ++ ys in
    elim (is_lt (cmp z x)) as P [
      | true ↦ ap (λ l. z ∷ l) (inserted-before cmp o x xs ys less)
      | false ↦ refl
    ]

pub ascending-append : {X : Type 0} (cmp : X → X → Ordering) (o : IsTotalOrder cmp) (xs ys : List X)
    → AreBelow cmp xs ys → ascending cmp (xs ++ ys) ≡ ascending cmp xs ++ ascending cmp ys
ascending-append cmp o [] ys less = refl
ascending-append cmp o (x ∷ xs) ys less =
    ap (inserted cmp x) (ascending-append cmp o xs ys (λ w y m n. less w y (inr m) n))
    ∙ inserted-before cmp o x (ascending cmp xs) (ascending cmp ys)
    (λ y m. less x y (inl refl) (ascending-IsIn cmp y ys m))

pub inserted-after : {X : Type 0} (cmp : X → X → Ordering) (x : X) (xs ys : List X)
    → ((z : X) → IsIn z xs → cmp z x ≡ Less) → inserted cmp x (xs ++ ys) ≡ xs ++ inserted cmp x ys
inserted-after cmp x [] ys less = refl
inserted-after cmp x (z ∷ xs) ys less =
    ap (λ r. cond (is_lt r) (z ∷ inserted cmp x (xs ++ ys)) (x ∷ z ∷ (xs ++ ys))) (less z (inl refl))
    ∙ ap (λ l. z ∷ l) (inserted-after cmp x xs ys (λ w m. less w (inr m)))
