-- Facets in the words of their values, and equal classes.
use Rattle.std.proofs.Common.{◌≡◌, ◌≢◌, ◌∙◌, ℕ, ◌<◌, Bool, true, false, ◌||◌, ◌&&◌, List, [], ◌∷◌, refl, sym, ap}
use Rattle.std.proofs.Common.{ap₂, inl, inr, subst, length, arith}
use Rattle.std.specs.Prelude.{◌↔◌, filter, flat_map, map, IsTrue}
use Rattle.std.specs.List.{Contains}
use Rattle.std.proofs.lemmas.Slice.Eq.{bytes_eq-Decides}
use Rattle.portal_base.specs.Kinds.{is_among}
use Rattle.portal_base.specs.Ordered.{IsAscending, ascending}
use Rattle.portal_base.proofs.Filtered.{IsIn-filter, filter-IsIn}
use Rattle.portal_base.proofs.Inserted.{IsAscending-ascending}
use Rattle.portal_base.proofs.Unique.{IsIn, IsIn-Contains, Contains-IsIn, IsIn-ascending, ascending-IsIn}
use Rattle.visibility.specs.declared.class.Class.{Class}
use Rattle.visibility.specs.declared.class.Class.TheVariants.{Editing, Inside, Public}
use Rattle.facets.specs.Counts.{Facet, counts_by, count_with, facet_cmp, facet_cmp_total, has_text, is_value, values_among}
use Rattle.facets.specs.Facts.{is_one_of, same_class}
use Rattle.facets.proofs.SetLemmas.{IsIn-among, IsIn-flat_map, IsIn-set, SetsAscend, SetsHaveTheirTexts, among-IsIn}
use Rattle.facets.proofs.SetLemmas.{flat_map-IsIn, set-IsIn}
use Rattle.facets.proofs.TallyLemmas.{AreApart-facets}

-- ---- what it is to have a value

both : (a b : Bool) → (a && b) ≡ true → (a ≡ true) × (b ≡ true)
both true b e = (refl, e)
both false b e = absurd (cc)

is_value-nonempty : (value : List ℕ) → is_value value ≡ true → value ≢ []
is_value-nonempty [] e = absurd (cc)
is_value-nonempty (byte ∷ bytes) e = λ same. absurd (cc)

nonempty-is_value : (value : List ℕ) → value ≢ [] → is_value value ≡ true
nonempty-is_value [] some = absurd (some refl)
nonempty-is_value (byte ∷ bytes) some = refl

pub has_text-means : {X : Type 0} (texts : X → List (List ℕ)) (value : List ℕ) (x : X)
    → IsTrue (has_text texts value x) ↔ ((value ≢ []) × Contains (texts x) value)
has_text-means texts value x = (
  λ e. let parts = both (is_value value) (is_among (texts x) value) e in (
    is_value-nonempty value parts.0,
    Contains-IsIn value (texts x) (among-IsIn value (texts x) parts.1),
  ),
  λ h. ap₂ (λ a b. a && b) (nonempty-is_value value h.0)
      (IsIn-among value (texts x) (IsIn-Contains value (texts x) h.1)),
)

-- ---- positive counts

count-one : {X : Type 0} (test : X → Bool) (x : X) (xs : List X) → IsIn x xs → test x ≡ true
    → 0 < length (filter test xs)
count-one {X} test x xs m passes = by (filter test xs) (filter-IsIn test x xs m passes)
  where
    by : (ys : List X) → IsIn x ys → 0 < length ys
    by [] m = absurd m
    by (y ∷ ys) m = omega arith

one-counted : {X : Type 0} (test : X → Bool) (xs : List X) → 0 < length (filter test xs)
    → (x : X) × IsIn x xs × (test x ≡ true)
one-counted {X} test xs some = by (filter test xs) (λ x m. IsIn-filter test x xs m) some
  where
    by : (ys : List X) → ((x : X) → IsIn x ys → IsIn x xs × (test x ≡ true)) → 0 < length ys
        → (x : X) × IsIn x xs × (test x ≡ true)
    by [] all some = absurd (omega (arith, some))
    by (y ∷ ys) all some = let found = all y (inl refl) in (y, found.0, found.1)

-- A value is among the items' values exactly if some item has it.
value-counted : SetsHaveTheirTexts → {X : Type 0} (texts : X → List (List ℕ)) (value : List ℕ) (xs : List X)
    → IsIn value (values_among texts xs) → 0 < count_with texts value xs
value-counted same texts value xs m =
    let kept = IsIn-filter is_value value (flat_map texts xs) (set-IsIn same value (filter is_value (flat_map texts xs)) m) in
    let found = flat_map-IsIn texts value xs kept.0 in
    count-one (has_text texts value) found.0 xs found.1
    (ap₂ (λ a b. a && b) kept.1 (IsIn-among value (texts found.0) found.2))

counted-value : SetsHaveTheirTexts → {X : Type 0} (texts : X → List (List ℕ)) (value : List ℕ) (xs : List X)
    → 0 < count_with texts value xs → IsIn value (values_among texts xs)
counted-value same texts value xs some =
    let found = one-counted (has_text texts value) xs some in
    let parts = both (is_value value) (is_among (texts found.0) value) found.2 in
    IsIn-set same value (filter is_value (flat_map texts xs))
    (filter-IsIn is_value value (flat_map texts xs)
    (IsIn-flat_map texts value found.0 xs found.1 (among-IsIn value (texts found.0) parts.1)) parts.0)

-- ---- the facets

facet-IsIn : (count : List ℕ → ℕ) (value : List ℕ) (n : ℕ) (values : List (List ℕ))
    → IsIn {X = Facet} (value, n) (map (λ t. (t, count t)) values) → IsIn value values × (n ≡ count value)
facet-IsIn count value n [] m = absurd m
facet-IsIn count value n (v ∷ vs) m = by m (facet-IsIn count value n vs)
  where
    by : IsIn {X = Facet} (value, n) (map (λ t. (t, count t)) (v ∷ vs))
        → (IsIn {X = Facet} (value, n) (map (λ t. (t, count t)) vs) → IsIn value vs × (n ≡ count value))
        → IsIn value (v ∷ vs) × (n ≡ count value)
    by (inl e) go =
        let here : value ≡ v = ap (λ (x : Facet). x.0) e in
        let number : n ≡ count v = ap (λ (x : Facet). x.1) e in
        (inl here, number ∙ ap count (sym here))
    by (inr m) go = let rest = go m in (inr rest.0, rest.1)

IsIn-facet : (count : List ℕ → ℕ) (value : List ℕ) (values : List (List ℕ)) → IsIn value values
    → IsIn {X = Facet} (value, count value) (map (λ t. (t, count t)) values)
IsIn-facet count value [] m = absurd m
IsIn-facet count value (v ∷ vs) (inl e) = inl (ap (λ (t : List ℕ). (t, count t)) e)
IsIn-facet count value (v ∷ vs) (inr m) = inr (IsIn-facet count value vs m)

pub facets-exact : SetsHaveTheirTexts → {X : Type 0} (texts : X → List (List ℕ)) (xs : List X) (value : List ℕ) (n : ℕ)
    → Contains (counts_by texts xs) (value, n) ↔ ((0 < n) × (n ≡ count_with texts value xs))
facets-exact same {X} texts xs value n = (to, from)
  where
    all : List Facet
    all = map (λ t. (t, count_with texts t xs)) (values_among texts xs)

    to : Contains (ascending facet_cmp all) (value, n) → (0 < n) × (n ≡ count_with texts value xs)
    to m =
        let found = facet-IsIn (λ t. count_with texts t xs) value n (values_among texts xs)
        (ascending-IsIn facet_cmp (value, n) all (IsIn-Contains (value, n) (ascending facet_cmp all) m)) in
        let some : 0 < count_with texts value xs = value-counted same texts value xs found.0 in
        (omega (arith, some, found.1), found.1)

    from : (0 < n) × (n ≡ count_with texts value xs) → Contains (ascending facet_cmp all) (value, n)
    from h =
        let some : 0 < count_with texts value xs = omega (arith, h.0, h.1) in
        Contains-IsIn (value, n) (ascending facet_cmp all)
        (IsIn-ascending facet_cmp (value, n) all
        (subst (λ (k : ℕ). IsIn {X = Facet} (value, k) all) (sym h.1)
        (IsIn-facet (λ t. count_with texts t xs) value (values_among texts xs) (counted-value same texts value xs some))))

pub facets-ascend : SetsAscend → {X : Type 0} (texts : X → List (List ℕ)) (xs : List X)
    → IsAscending facet_cmp (counts_by texts xs)
facets-ascend up texts xs =
    IsAscending-ascending facet_cmp facet_cmp_total (map (λ t. (t, count_with texts t xs)) (values_among texts xs))
    (AreApart-facets (λ t. count_with texts t xs) (values_among texts xs) (up (filter is_value (flat_map texts xs))))

-- ---- equal classes

pub same_class-means : (class other : Class) → IsTrue (same_class class other) ↔ (class ≡ other)
same_class-means Public Public = (λ e. refl, λ e. refl)
same_class-means Public (Inside org) = (λ e. absurd (cc), λ e. absurd (cc))
same_class-means Public (Editing org) = (λ e. absurd (cc), λ e. absurd (cc))
same_class-means (Inside org) Public = (λ e. absurd (cc), λ e. absurd (cc))
same_class-means (Inside org) (Inside other) =
    (λ e. ap Inside ((bytes_eq-Decides org other).0 e), λ e. (bytes_eq-Decides org other).1 (cc))
same_class-means (Inside org) (Editing other) = (λ e. absurd (cc), λ e. absurd (cc))
same_class-means (Editing org) Public = (λ e. absurd (cc), λ e. absurd (cc))
same_class-means (Editing org) (Inside other) = (λ e. absurd (cc), λ e. absurd (cc))
same_class-means (Editing org) (Editing other) =
    (λ e. ap Editing ((bytes_eq-Decides org other).0 e), λ e. (bytes_eq-Decides org other).1 (cc))

one_of-IsIn : (class : Class) (classes : List Class) → is_one_of classes class ≡ true → IsIn class classes
one_of-IsIn class [] e = absurd (cc)
one_of-IsIn class (c ∷ cs) e = by (same_class class c) refl (one_of-IsIn class cs) e
  where
    by : (b : Bool) → same_class class c ≡ b → (is_one_of cs class ≡ true → IsIn class cs)
        → (b || is_one_of cs class) ≡ true → IsIn class (c ∷ cs)
    by true is go e = inl ((same_class-means class c).0 is)
    by false is go e = inr (go e)

or_true : (b : Bool) → (b || true) ≡ true
or_true true = refl
or_true false = refl

IsIn-one_of : (class : Class) (classes : List Class) → IsIn class classes → is_one_of classes class ≡ true
IsIn-one_of class [] m = absurd m
IsIn-one_of class (c ∷ cs) (inl e) = ap (λ b. b || is_one_of cs class) ((same_class-means class c).1 e)
IsIn-one_of class (c ∷ cs) (inr m) =
    ap (λ b. same_class class c || b) (IsIn-one_of class cs m) ∙ or_true (same_class class c)

pub one_of-means : (classes : List Class) (class : Class) → IsTrue (is_one_of classes class) ↔ Contains classes class
one_of-means classes class = (
  λ e. Contains-IsIn class classes (one_of-IsIn class classes e),
  λ m. IsIn-one_of class classes (IsIn-Contains class classes m),
)
