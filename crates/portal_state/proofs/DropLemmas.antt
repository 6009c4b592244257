-- Lists from which several keys are dropped, and lists in which items are replaced.
use Rattle.std.proofs.Common.{◌≡◌, Bool, true, false, not, cond, ◌&&◌, ◌||◌, List, [], ◌∷◌, None, map, refl, sym, ap}
use Rattle.std.proofs.Common.{◌∙◌, if◌then◌else◌, inl, inr}
use Rattle.std.specs.Prelude.{filter}
use Rattle.std.specs.Cmp.{IsTotalOrder}
use Rattle.std.specs.List.{list_any}
use Rattle.std.specs.Ordering.{is_eq, is_lt}
use Rattle.std.specs.declared.cmp.Ordering.{Ordering}
use Rattle.std.specs.declared.cmp.Ordering.TheVariants.{Less, Equal, Greater}
use Rattle.std.proofs.lemmas.Cmp.{alike_right}
use Rattle.std.proofs.lemmas.List.Elements.{filter_agree}
use Rattle.portal_base.specs.Ordered.{IsAscending, IsBelowAll, dropped, found, inserted, upserted}
use Rattle.portal_base.proofs.Filtered.{filter-all}
use Rattle.portal_base.proofs.Removed.{inserted_front, none_above}
use Rattle.portal_base.proofs.Unique.{IsIn, below_in}
use Rattle.portal_base.proofs.Upserted.{dropped-none}
use Rattle.packages.proofs.FindLemmas.{find-none}

-- ---- filters

-- What two filters keep is what passes both.
filter-both : {X : Type 0} (p q : X → Bool) (xs : List X) → filter p (filter q xs) ≡ filter (λ x. q x && p x) xs
filter-both p q [] = refl
filter-both {X} p q (x ∷ xs) = by (q x) (filter-both p q xs)
  where
    by : (b : Bool) → filter p (filter q xs) ≡ filter (λ y. q y && p y) xs
        → filter p (cond b (x ∷ filter q xs) (filter q xs))
        ≡ cond (b && p x) (x ∷ filter (λ y. q y && p y) xs) (filter (λ y. q y && p y) xs)
    by true rest = ap (λ l. cond (p x) (x ∷ l) l) rest
    by false rest = rest

-- Tests that agree on each item of a list keep the same of it.
pub filter-agree_in : {X : Type 0} (p q : X → Bool) (xs : List X) → ((x : X) → IsIn x xs → p x ≡ q x)
    → filter p xs ≡ filter q xs
filter-agree_in p q [] same = refl
filter-agree_in p q (x ∷ xs) same =
    ap (λ b. cond b (x ∷ filter p xs) (filter p xs)) (same x (inl refl))
    ∙ ap (λ l. cond (q x) (x ∷ l) l) (filter-agree_in p q xs (λ z m. same z (inr m)))

-- Of items none of which passes nothing is kept.
pub filter-none : {X : Type 0} (p : X → Bool) (xs : List X) → ((x : X) → IsIn x xs → p x ≡ false) → filter p xs ≡ []
filter-none p [] fails = refl
filter-none p (x ∷ xs) fails =
    ap (λ b. cond b (x ∷ filter p xs) (filter p xs)) (fails x (inl refl))
    ∙ filter-none p xs (λ z m. fails z (inr m))

-- ---- several keys

-- without all items that have one of the keys
abbrev pub all_dropped : {X K : Type 0} → (K → X → Ordering) → List K → List X → List X
all_dropped at [] xs = xs
all_dropped at (k ∷ ks) xs = all_dropped at ks (dropped (at k) xs)

-- That is one filter.
pub all_dropped-filter : {X K : Type 0} (at : K → X → Ordering) (ks : List K) (xs : List X)
    → all_dropped at ks xs ≡ filter (λ x. not (list_any (λ k. is_eq (at k x)) ks)) xs
all_dropped-filter at [] xs = sym (filter-all (λ x. true) xs (λ x m. refl))
all_dropped-filter {X} {K} at (k ∷ ks) xs =
    all_dropped-filter at ks (dropped (at k) xs)
    ∙ filter-both (λ x. not (list_any (λ j. is_eq (at j x)) ks)) (λ x. not (is_eq (at k x))) xs
    ∙ filter_agree (λ x. not (is_eq (at k x)) && not (list_any (λ j. is_eq (at j x)) ks))
    (λ x. not (is_eq (at k x) || list_any (λ j. is_eq (at j x)) ks))
    (λ x. neither (is_eq (at k x)) (list_any (λ j. is_eq (at j x)) ks)) xs
  where
    neither : (a b : Bool) → (not a && not b) ≡ not (a || b)
    neither true b = refl
    neither false b = refl

-- ---- items that are made over

-- Functions that agree on each item of a list make the same of it.
pub map-agree_in : {X Y : Type 0} (f g : X → Y) (xs : List X) → ((x : X) → IsIn x xs → f x ≡ g x)
    → map f xs ≡ map g xs
map-agree_in f g [] same = refl
map-agree_in f g (x ∷ xs) same =
    ap (λ y. y ∷ map f xs) (same x (inl refl))
    ∙ ap (λ l. g x ∷ l) (map-agree_in f g xs (λ z m. same z (inr m)))

-- A list of which each item is left as it is stays as it is.
pub map-same : {X : Type 0} (f : X → X) (xs : List X) → ((x : X) → IsIn x xs → f x ≡ x) → map f xs ≡ xs
map-same f [] same = refl
map-same f (x ∷ xs) same =
    ap (λ y. y ∷ map f xs) (same x (inl refl)) ∙ ap (λ l. x ∷ l) (map-same f xs (λ z m. same z (inr m)))

-- Equal items are below the same items.
below-like : {X : Type 0} (cmp : X → X → Ordering) (o : IsTotalOrder cmp) (z x : X) (xs : List X) → cmp z x ≡ Equal
    → IsBelowAll cmp z xs → IsBelowAll cmp x xs
below-like cmp o z x [] like below = tt
below-like cmp o z x (w ∷ ws) like below =
    (sym (o.congr z x w like) ∙ below.0, below-like cmp o z x ws like below.1)

-- If an item of an ascending list is equal to x, an upsert puts x in its place and changes nothing else.
pub upserted-replaced : {X : Type 0} (cmp : X → X → Ordering) (o : IsTotalOrder cmp) (x y : X) (xs : List X)
    → IsAscending cmp xs → IsIn y xs → cmp y x ≡ Equal
    → upserted cmp x xs ≡ map (λ z. if is_eq (cmp z x) then x else z) xs
upserted-replaced cmp o x y [] up m like = absurd m
upserted-replaced {X} cmp o x y (z ∷ zs) up m like =
    by (cmp z x) refl m (λ n. upserted-replaced cmp o x y zs up.1 n like)
  where
    others : List X
    others = dropped (λ w. cmp w x) zs

    made : List X
    made = map (λ w. if is_eq (cmp w x) then x else w) zs

    by : (r : Ordering) → cmp z x ≡ r → IsIn y (z ∷ zs) → (IsIn y zs → upserted cmp x zs ≡ made)
        → inserted cmp x (cond (not (is_eq r)) (z ∷ others) others) ≡ (if is_eq r then x else z) ∷ made
    by Less e (inl same) more = let equal : cmp z x ≡ Equal = ap (λ w. cmp w x) (sym same) ∙ like in absurd (cc)
    by Less e (inr n) more =
        ap (λ r. cond (is_lt r) (z ∷ inserted cmp x others) (x ∷ z ∷ others)) e ∙ ap (λ l. z ∷ l) (more n)
    by Equal e n more =
        let none : found (λ w. cmp w x) zs ≡ None =
        none_above cmp o (λ w. cmp w x) (λ a b h. sym (alike_right o a x b h)) z zs e up.0 in
        ap (inserted cmp x) (dropped-none (λ w. cmp w x) zs none)
        ∙ inserted_front cmp o x zs (below-like cmp o z x zs e up.0)
        ∙ ap (λ l. x ∷ l) (sym (map-same (λ w. if is_eq (cmp w x) then x else w) zs
        (λ w k. ap (λ b. if b then x else w) (find-none (λ v. is_eq (cmp v x)) w zs none k))))
    by Greater e (inl same) more =
        let equal : cmp z x ≡ Equal = ap (λ w. cmp w x) (sym same) ∙ like in absurd (cc)
    by Greater e (inr n) more =
        let less : cmp z x ≡ Less = sym (alike_right o y x z like) ∙ below_in cmp z y zs up.0 n in absurd (cc)
