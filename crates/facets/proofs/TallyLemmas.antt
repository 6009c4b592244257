-- What a sort and the runs of equal texts count: each value with the number of items that have it.
use Rattle.std.proofs.Common.{◌≡◌, ◌∙◌, ℕ, ◌+◌, Bool, true, false, ◌||◌, ◌&&◌, cond, List, [], ◌∷◌, ◌++◌, refl, sym, ap, ap₂}
use Rattle.std.proofs.Common.{inl, inr, subst, length, reverse, arith}
use Rattle.std.specs.Prelude.{filter, flat_map, map}
use Rattle.std.specs.List.{list_any}
use Rattle.std.specs.List.Sorted.{IsPermutation, IsSorted, IsSortedBy}
use Rattle.std.specs.Str.{bytes_eq}
use Rattle.std.specs.Cmp.Lexicographic.{nat_list_cmp_total}
use Rattle.std.specs.declared.cmp.Ordering.{Ordering}
use Rattle.std.specs.declared.cmp.Ordering.TheVariants.{Less, Equal, Greater}
use Rattle.std.specs.Ordering.{is_eq, is_lt, nat_cmp, ordering_reverse, ordering_then}
use Rattle.std.proofs.lemmas.List.{reverse-reverse}
use Rattle.std.proofs.lemmas.List.Sorted.{Contains-permutation, IsPermutation-reverse, IsPermutation-sym, IsPermutation-trans}
use Rattle.std.proofs.lemmas.List.Sorted.{sum_by-IsPermutation}
use Rattle.std.proofs.lemmas.List.Sums.{length-filter}
use Rattle.portal_base.specs.Kinds.{is_among}
use Rattle.portal_base.specs.Ordered.{IsAscending, IsBelowAll, ascending}
use Rattle.portal_base.proofs.Filtered.{IsIn-filter, filter-IsIn}
use Rattle.portal_base.proofs.Inserted.{AreApart}
use Rattle.portal_base.proofs.Sorted.{sort-ascending}
use Rattle.portal_base.proofs.Unique.{IsIn, IsIn-Contains, Contains-IsIn}
use Rattle.packages.specs.Tags.{text_set}
use Rattle.facets.specs.Counts.{Facet, counts_by, count_with, facet_cmp, facet_cmp_total, has_text, is_value, values_among}
use Rattle.facets.specs.Tally.{occurrences, own_values, runs, tallied}
use Rattle.facets.proofs.RunLemmas.{AreCounted-runs, IsAscending-runs, IsIn-texts_of, Rises, Rises-sorted, counted_is}
use Rattle.facets.proofs.RunLemmas.{below-apart, occurrences-none, text_cmp, texts_of, texts_of-IsIn}
use Rattle.facets.proofs.SetLemmas.{IsIn-among, IsIn-set, SetsAscend, SetsHaveTheirTexts, among-IsIn, is_set, own_values-set}
use Rattle.facets.proofs.SetLemmas.{alike, set-IsIn}

-- ---- the list that a tally sorts

occurrences-permutation : (xs ys : List (List ℕ)) → IsPermutation xs ys → (t : List ℕ)
    → occurrences ys t ≡ occurrences xs t
occurrences-permutation xs ys moved t =
    length-filter (λ y. bytes_eq y t) ys
    ∙ sum_by-IsPermutation (λ y. cond (bytes_eq y t) 1 0) xs ys moved
    ∙ sym (length-filter (λ y. bytes_eq y t) xs)

map-same : {X Y : Type 0} (f g : X → Y) → ((x : X) → f x ≡ g x) → (xs : List X) → map f xs ≡ map g xs
map-same f g same [] = refl
map-same f g same (x ∷ xs) = ap₂ (λ y ys. y ∷ ys) (same x) (map-same f g same xs)

-- The runs of the sorted texts are the set of the texts, each with its count.
runs-are : SetsAscend → SetsHaveTheirTexts → (texts sorted : List (List ℕ)) → IsPermutation texts sorted
    → IsSorted text_cmp sorted → runs sorted ≡ map (λ t. (t, occurrences texts t)) (text_set texts)
runs-are up same texts sorted moved rising =
    counted_is sorted (runs sorted) (AreCounted-runs sorted rises)
    ∙ map-same (λ t. (t, occurrences sorted t)) (λ t. (t, occurrences texts t))
    (λ t. ap (λ (n : ℕ). (t, n)) (occurrences-permutation texts sorted moved t)) (texts_of (runs sorted))
    ∙ ap (map (λ t. (t, occurrences texts t))) all
  where
    rises : Rises sorted
    rises = Rises-sorted sorted rising

    all : texts_of (runs sorted) ≡ text_set texts
    all =
        is_set up same (texts_of (runs sorted)) texts (IsAscending-runs sorted rises)
        (λ z m. IsIn-Contains z texts
        (Contains-permutation sorted texts z (IsPermutation-sym texts sorted moved)
        (Contains-IsIn z sorted (texts_of-IsIn z sorted m))))
        (λ z m. IsIn-texts_of z sorted
        (IsIn-Contains z sorted (Contains-permutation texts sorted z moved (Contains-IsIn z texts m))))

-- ---- facets with different values

then_unlike : (r s : Ordering) → is_eq s ≡ false → is_eq (ordering_then r s) ≡ false
then_unlike Less s e = refl
then_unlike Greater s e = refl
then_unlike Equal s e = e

-- no later text of an ascending list gives the same facet
facets_apart : (count : List ℕ → ℕ) (x : List ℕ) (xs : List (List ℕ)) → IsBelowAll text_cmp x xs
    → list_any (λ y. is_eq (facet_cmp y (x, count x))) (map (λ t. (t, count t)) xs) ≡ false
facets_apart count x [] below = refl
facets_apart count x (y ∷ ys) below =
    ap₂ (λ a b. a || b)
    (then_unlike (nat_cmp (count x) (count y)) (text_cmp y x)
    (ap is_eq (nat_list_cmp_total.antisymm y x ∙ ap ordering_reverse below.0)))
    (facets_apart count x ys below.1)

pub AreApart-facets : (count : List ℕ → ℕ) (xs : List (List ℕ)) → IsAscending text_cmp xs
    → AreApart facet_cmp (map (λ t. (t, count t)) xs)
AreApart-facets count [] up = tt
AreApart-facets count (x ∷ xs) up = (facets_apart count x xs up.0, AreApart-facets count xs up.1)

-- What is sorted is the tally.
pub tallied-sorted : SetsAscend → SetsHaveTheirTexts → (texts sorted : List (List ℕ)) (counts ordered : List Facet)
    → IsPermutation texts sorted → IsSorted text_cmp sorted → reverse counts ≡ runs sorted
    → IsPermutation counts ordered → IsSortedBy (λ x y. is_lt (facet_cmp x y)) ordered → ordered ≡ tallied texts
tallied-sorted up same texts sorted counts ordered moved rising counted reordered falling =
    sort-ascending facet_cmp facet_cmp_total all ordered
    (AreApart-facets (occurrences texts) (text_set texts) (up texts))
    (IsPermutation-trans all counts ordered
    (subst (λ (list : List Facet). IsPermutation all list)
    (ap reverse (sym (counted ∙ runs-are up same texts sorted moved rising)) ∙ reverse-reverse counts)
    (IsPermutation-reverse all))
    reordered) falling
  where
    all : List Facet
    all = map (λ t. (t, occurrences texts t)) (text_set texts)

-- ---- the occurrences of a value among the own values of items

occurrences-append : (t : List ℕ) (xs ys : List (List ℕ))
    → occurrences (xs ++ ys) t ≡ occurrences xs t + occurrences ys t
occurrences-append t [] ys = omega arith
occurrences-append t (x ∷ xs) ys = by (bytes_eq x t) (occurrences-append t xs ys)
  where
    by : (b : Bool) → occurrences (xs ++ ys) t ≡ occurrences xs t + occurrences ys t
        → length (cond b (x ∷ filter (λ y. bytes_eq y t) (xs ++ ys)) (filter (λ y. bytes_eq y t) (xs ++ ys)))
        ≡ length (cond b (x ∷ filter (λ y. bytes_eq y t) xs) (filter (λ y. bytes_eq y t) xs)) + occurrences ys t
    by true more = omega (arith, more)
    by false more = more

-- In an ascending list a text occurs once or never.
occurrences-ascending : (t : List ℕ) (xs : List (List ℕ)) → IsAscending text_cmp xs
    → occurrences xs t ≡ cond (is_among xs t) 1 0
occurrences-ascending t [] up = refl
occurrences-ascending t (x ∷ xs) up = by (bytes_eq x t) refl (occurrences-ascending t xs up.1)
  where
    absent : bytes_eq x t ≡ true → (ys : List (List ℕ)) → IsBelowAll text_cmp x ys → IsIn t ys → ⊥
    absent same [] below m = m
    absent same (y ∷ ys) below (inl e) =
        let apart : bytes_eq x y ≡ false = below-apart x y below.0 in
        let both : bytes_eq x y ≡ true = ap (bytes_eq x) (sym e) ∙ same in
        absurd (cc)
    absent same (y ∷ ys) below (inr m) = absent same ys below.1 m

    by : (b : Bool) → bytes_eq x t ≡ b → occurrences xs t ≡ cond (is_among xs t) 1 0
        → length (cond b (x ∷ filter (λ y. bytes_eq y t) xs) (filter (λ y. bytes_eq y t) xs))
        ≡ cond (b || is_among xs t) 1 0
    by true same rest =
        let none : occurrences xs t ≡ 0 = occurrences-none t xs (absent same xs up.0) in omega (arith, none)
    by false apart rest = rest

-- The own values of an item have a value exactly if the item has it.
own_values-among : SetsHaveTheirTexts → (t : List ℕ) (texts : List (List ℕ))
    → is_among (own_values texts) t ≡ (is_value t && is_among texts t)
own_values-among same t texts =
    alike (is_among (own_values texts) t) (is_value t && is_among texts t) to (from (is_value t) refl)
  where
    to : is_among (own_values texts) t ≡ true → (is_value t && is_among texts t) ≡ true
    to e =
        let both = IsIn-filter is_value t texts (set-IsIn same t (filter is_value texts) (among-IsIn t (own_values texts) e)) in
        ap₂ (λ a b. a && b) both.1 (IsIn-among t texts both.0)

    from : (b : Bool) → is_value t ≡ b → (b && is_among texts t) ≡ true → is_among (own_values texts) t ≡ true
    from true is e =
        IsIn-among t (own_values texts)
        (IsIn-set same t (filter is_value texts) (filter-IsIn is_value t texts (among-IsIn t texts e) is))
    from false is e = absurd (cc)

occurrences-count : SetsAscend → SetsHaveTheirTexts → {X : Type 0} (texts : X → List (List ℕ)) (t : List ℕ)
    (items : List X) → occurrences (flat_map (λ x. own_values (texts x)) items) t ≡ count_with texts t items
occurrences-count up same texts t [] = refl
occurrences-count up same {X} texts t (x ∷ xs) =
    occurrences-append t (own_values (texts x)) (flat_map (λ y. own_values (texts y)) xs)
    ∙ ap₂ (λ (m : ℕ) (n : ℕ). m + n)
    (occurrences-ascending t (own_values (texts x)) (up (filter is_value (texts x)))
    ∙ ap (λ b. cond b 1 0) (own_values-among same t (texts x)))
    (occurrences-count up same texts t xs)
    ∙ by (has_text texts t x)
  where
    by : (b : Bool) → cond b 1 0 + count_with texts t xs
        ≡ length (cond b (x ∷ filter (has_text texts t) xs) (filter (has_text texts t) xs))
    by true = omega arith
    by false = omega arith

-- The tally of the items' own values has the count of each value.
pub tallied-counts : SetsAscend → SetsHaveTheirTexts → {X : Type 0} (texts : X → List (List ℕ)) (items : List X)
    → tallied (flat_map (λ x. own_values (texts x)) items) ≡ counts_by texts items
tallied-counts up same texts items =
    ap (λ (values : List (List ℕ)). ascending facet_cmp
    (map (λ t. (t, occurrences (flat_map (λ x. own_values (texts x)) items) t)) values)) (own_values-set up same texts items)
    ∙ ap (ascending facet_cmp)
    (map-same (λ t. (t, occurrences (flat_map (λ x. own_values (texts x)) items) t)) (λ t. (t, count_with texts t items))
    (λ t. ap (λ (n : ℕ). (t, n)) (occurrences-count up same texts t items)) (values_among texts items))
