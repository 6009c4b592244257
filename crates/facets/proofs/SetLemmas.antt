-- Sets of texts: the members, and the laws of packages on which the proofs here rest.
use Rattle.std.proofs.Common.{◌≡◌, ◌∙◌, ℕ, Bool, true, false, ◌||◌, List, [], ◌∷◌, ◌++◌, refl, sym, ap}
use Rattle.std.proofs.Common.{inl, inr, ◌⊎◌, subst}
use Rattle.std.specs.Prelude.{◌↔◌, filter, flat_map}
use Rattle.std.specs.List.{Contains}
use Rattle.std.specs.Str.{bytes_eq}
use Rattle.std.specs.Cmp.Lexicographic.{slice_cmp, nat_list_cmp_total}
use Rattle.std.specs.Ordering.{nat_cmp}
use Rattle.std.proofs.lemmas.Slice.Eq.{bytes_eq-Decides}
use Rattle.portal_base.specs.Kinds.{is_among}
use Rattle.portal_base.specs.Ordered.{IsAscending}
use Rattle.portal_base.proofs.Filtered.{IsIn-filter, filter-IsIn}
use Rattle.portal_base.proofs.Unique.{IsIn, IsIn-Contains, Contains-IsIn, unique}
use Rattle.packages.specs.Tags.{text_set}
use Rattle.facets.specs.Counts.{is_value}
use Rattle.facets.specs.Tally.{own_values}

-- ---- the laws of sets

abbrev pub SetsAscend : Type 0
SetsAscend = (texts : List (List ℕ)) → IsAscending (slice_cmp nat_cmp) (text_set texts)

abbrev pub SetsHaveTheirTexts : Type 0
SetsHaveTheirTexts = (texts : List (List ℕ)) (text : List ℕ) → Contains (text_set texts) text ↔ Contains texts text

pub IsIn-set : SetsHaveTheirTexts → (z : List ℕ) (texts : List (List ℕ)) → IsIn z texts → IsIn z (text_set texts)
IsIn-set same z texts m = IsIn-Contains z (text_set texts) ((same texts z).1 (Contains-IsIn z texts m))

pub set-IsIn : SetsHaveTheirTexts → (z : List ℕ) (texts : List (List ℕ)) → IsIn z (text_set texts) → IsIn z texts
set-IsIn same z texts m = IsIn-Contains z texts ((same texts z).0 (Contains-IsIn z (text_set texts) m))

-- An ascending list with the texts is their set.
pub is_set : SetsAscend → SetsHaveTheirTexts → (list texts : List (List ℕ)) → IsAscending (slice_cmp nat_cmp) list
    → ((z : List ℕ) → IsIn z list → IsIn z texts) → ((z : List ℕ) → IsIn z texts → IsIn z list)
    → list ≡ text_set texts
is_set up same list texts ascends to from =
    unique (slice_cmp nat_cmp) nat_list_cmp_total list (text_set texts) ascends (up texts)
    (λ z m. IsIn-set same z texts (to z m)) (λ z m. from z (set-IsIn same z texts m))

-- ---- tests

pub alike : (a b : Bool) → (a ≡ true → b ≡ true) → (b ≡ true → a ≡ true) → a ≡ b
alike true b to back = sym (to refl)
alike false true to back = back refl
alike false false to back = refl

or_true : (b : Bool) → (b || true) ≡ true
or_true true = refl
or_true false = refl

pub among-IsIn : (text : List ℕ) (texts : List (List ℕ)) → is_among texts text ≡ true → IsIn text texts
among-IsIn text [] e = absurd (cc)
among-IsIn text (t ∷ ts) e = by (bytes_eq t text) refl (among-IsIn text ts) e
  where
    by : (b : Bool) → bytes_eq t text ≡ b → (is_among ts text ≡ true → IsIn text ts) → (b || is_among ts text) ≡ true
        → IsIn text (t ∷ ts)
    by true is go e = inl (sym ((bytes_eq-Decides t text).0 is))
    by false is go e = inr (go e)

pub IsIn-among : (text : List ℕ) (texts : List (List ℕ)) → IsIn text texts → is_among texts text ≡ true
IsIn-among text [] m = absurd m
IsIn-among text (t ∷ ts) (inl e) = ap (λ b. b || is_among ts text) ((bytes_eq-Decides t text).1 (sym e))
IsIn-among text (t ∷ ts) (inr m) = ap (λ b. bytes_eq t text || b) (IsIn-among text ts m) ∙ or_true (bytes_eq t text)

-- ---- joined lists

IsIn-left : {X : Type 0} (z : X) (xs ys : List X) → IsIn z xs → IsIn z (xs ++ ys)
IsIn-left z [] ys m = absurd m
IsIn-left z (x ∷ xs) ys (inl e) = inl e
IsIn-left z (x ∷ xs) ys (inr m) = inr (IsIn-left z xs ys m)

IsIn-right : {X : Type 0} (z : X) (xs ys : List X) → IsIn z ys → IsIn z (xs ++ ys)
IsIn-right z [] ys m = m
IsIn-right z (x ∷ xs) ys m = inr (IsIn-right z xs ys m)

IsIn-either : {X : Type 0} (z : X) (xs ys : List X) → IsIn z (xs ++ ys) → IsIn z xs ⊎ IsIn z ys
IsIn-either z [] ys m = inr m
IsIn-either z (x ∷ xs) ys (inl e) = inl (inl e)
IsIn-either {X} z (x ∷ xs) ys (inr m) = by (IsIn-either z xs ys m)
  where
    by : IsIn z xs ⊎ IsIn z ys → IsIn z (x ∷ xs) ⊎ IsIn z ys
    by (inl n) = inl (inr n)
    by (inr n) = inr n

pub IsIn-flat_map : {X Y : Type 0} (f : X → List Y) (z : Y) (x : X) (xs : List X) → IsIn x xs → IsIn z (f x)
    → IsIn z (flat_map f xs)
IsIn-flat_map f z x [] m n = absurd m
IsIn-flat_map {X} f z x (y ∷ ys) (inl e) n = IsIn-left z (f y) (flat_map f ys) (subst (λ (w : X). IsIn z (f w)) e n)
IsIn-flat_map f z x (y ∷ ys) (inr m) n = IsIn-right z (f y) (flat_map f ys) (IsIn-flat_map f z x ys m n)

pub flat_map-IsIn : {X Y : Type 0} (f : X → List Y) (z : Y) (xs : List X) → IsIn z (flat_map f xs)
    → (x : X) × IsIn x xs × IsIn z (f x)
flat_map-IsIn f z [] m = absurd m
flat_map-IsIn {X} f z (x ∷ xs) m = by (IsIn-either z (f x) (flat_map f xs) m) (flat_map-IsIn f z xs)
  where
    by : IsIn z (f x) ⊎ IsIn z (flat_map f xs) → (IsIn z (flat_map f xs) → (y : X) × IsIn y xs × IsIn z (f y))
        → (y : X) × IsIn y (x ∷ xs) × IsIn z (f y)
    by (inl n) go = (x, inl refl, n)
    by (inr n) go = let found = go n in (found.0, inr found.1, found.2)

-- The set of the items' own values is the set of all values among their texts.
pub own_values-set : SetsAscend → SetsHaveTheirTexts → {X : Type 0} (texts : X → List (List ℕ)) (items : List X)
    → text_set (flat_map (λ x. own_values (texts x)) items) ≡ text_set (filter is_value (flat_map texts items))
own_values-set up same {X} texts items =
    is_set up same (text_set (flat_map (λ x. own_values (texts x)) items)) (filter is_value (flat_map texts items))
    (up (flat_map (λ x. own_values (texts x)) items)) to from
  where
    to : (z : List ℕ) → IsIn z (text_set (flat_map (λ x. own_values (texts x)) items))
        → IsIn z (filter is_value (flat_map texts items))
    to z m =
        let found = flat_map-IsIn (λ x. own_values (texts x)) z items
        (set-IsIn same z (flat_map (λ x. own_values (texts x)) items) m) in
        let own = IsIn-filter is_value z (texts found.0) (set-IsIn same z (filter is_value (texts found.0)) found.2) in
        filter-IsIn is_value z (flat_map texts items) (IsIn-flat_map texts z found.0 items found.1 own.0) own.1

    from : (z : List ℕ) → IsIn z (filter is_value (flat_map texts items))
        → IsIn z (text_set (flat_map (λ x. own_values (texts x)) items))
    from z m =
        let all = IsIn-filter is_value z (flat_map texts items) m in
        let found = flat_map-IsIn texts z items all.0 in
        IsIn-set same z (flat_map (λ x. own_values (texts x)) items)
        (IsIn-flat_map (λ x. own_values (texts x)) z found.0 items found.1
        (IsIn-set same z (filter is_value (texts found.0)) (filter-IsIn is_value z (texts found.0) found.2 all.1)))
