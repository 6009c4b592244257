-- The entries of datasets, and the counts over them.
use Rattle.std.proofs.Common.{◌≡◌, ◌∙◌, ℕ, ◌+◌, ◌<◌, Bool, true, false, not, cond, List, [], ◌∷◌, ◌++◌, Some, refl, sym, ap, ap₂, length, take, get_or}
use Rattle.std.specs.Prelude.{filter, flat_map, map}
use Rattle.std.specs.List.{cons_option}
use Rattle.std.specs.Ordering.{is_eq, is_lt}
use Rattle.std.proofs.lemmas.Grind.{flat_map-append}
use Rattle.std.proofs.lemmas.List.{append-nil, take_more}
use Rattle.std.proofs.lemmas.List.Elements.{filter_map-append}
use Rattle.portal_base.specs.Ordered.{ascending, dropped, inserted, upserted}
use Rattle.packages.specs.Order.{dataset_cmp}
use Rattle.packages.proofs.ShelfLemmas.{datasets_at-more}
use Rattle.packages.specs.Shelf.{ShelfState, datasets_at, package_at}
use Rattle.packages.specs.Tags.{text_set}
use Rattle.packages.specs.declared.package.Package.{Package}
use Rattle.visibility.specs.Visibility.{class_for}
use Rattle.visibility.specs.declared.class.Class.{Class}
use Rattle.facets.specs.Counters.{at_id, entry_cmp, entry_of}
use Rattle.facets.specs.Counts.{counts_by, count_with, facet_cmp, has_text, is_value, values_among}
use Rattle.facets.specs.Facets.{texts_in}
use Rattle.facets.specs.Facts.{facts_of, texts_at}
use Rattle.facets.specs.Tally.{own_values}
use Rattle.facets.specs.declared.field.FacetField.{FacetField}
use Rattle.facets.specs.declared.field.FacetField.TheVariants.{LicenseId, Organization, ResFormat, Tags}

-- ---- changes

map-inserted : (d : Package) (ds : List Package)
    → inserted entry_cmp (entry_of d) (map entry_of ds) ≡ map entry_of (inserted dataset_cmp d ds)
map-inserted d [] = refl
map-inserted d (e ∷ ds) = by (is_lt (dataset_cmp e d)) (map-inserted d ds)
  where
    by : (b : Bool) → inserted entry_cmp (entry_of d) (map entry_of ds) ≡ map entry_of (inserted dataset_cmp d ds)
        → cond b (entry_of e ∷ inserted entry_cmp (entry_of d) (map entry_of ds))
        (entry_of d ∷ entry_of e ∷ map entry_of ds)
        ≡ map entry_of (cond b (e ∷ inserted dataset_cmp d ds) (d ∷ e ∷ ds))
    by true more = ap (λ z. entry_of e ∷ z) more
    by false more = refl

pub map-dropped : (d : Package) (ds : List Package)
    → dropped (at_id d.id) (map entry_of ds) ≡ map entry_of (dropped (λ e. dataset_cmp e d) ds)
map-dropped d [] = refl
map-dropped d (e ∷ ds) = by (is_eq (dataset_cmp e d)) (map-dropped d ds)
  where
    by : (b : Bool)
        → dropped (at_id d.id) (map entry_of ds) ≡ map entry_of (dropped (λ e. dataset_cmp e d) ds)
        → cond (not b) (entry_of e ∷ dropped (at_id d.id) (map entry_of ds)) (dropped (at_id d.id) (map entry_of ds))
        ≡ map entry_of (cond (not b) (e ∷ dropped (λ e. dataset_cmp e d) ds) (dropped (λ e. dataset_cmp e d) ds))
    by true more = more
    by false more = ap (λ z. entry_of e ∷ z) more

pub map-upserted : (d : Package) (ds : List Package)
    → upserted entry_cmp (entry_of d) (map entry_of ds) ≡ map entry_of (upserted dataset_cmp d ds)
map-upserted d ds =
    ap (inserted entry_cmp (entry_of d)) (map-dropped d ds) ∙ map-inserted d (dropped (λ e. dataset_cmp e d) ds)

-- ---- counts

-- The facts of a dataset have its texts.
pub texts_at-facts_of : (field : FacetField) (d : Package) → texts_at field (facts_of d) ≡ texts_in field d
texts_at-facts_of Organization d = refl
texts_at-facts_of Tags d = refl
texts_at-facts_of ResFormat d = refl
texts_at-facts_of LicenseId d = refl

-- The facts of the datasets in some classes.
pub facts-of_class : (test : Class → Bool) (ds : List Package)
    → filter (λ facts. test facts.class) (map (λ e. e.1) (map entry_of ds))
    ≡ map facts_of (filter (λ d. test (class_for d)) ds)
facts-of_class test [] = refl
facts-of_class test (d ∷ ds) = by (test (class_for d)) (facts-of_class test ds)
  where
    by : (b : Bool)
        → filter (λ facts. test facts.class) (map (λ e. e.1) (map entry_of ds))
        ≡ map facts_of (filter (λ d. test (class_for d)) ds)
        → cond b (facts_of d ∷ filter (λ facts. test facts.class) (map (λ e. e.1) (map entry_of ds)))
        (filter (λ facts. test facts.class) (map (λ e. e.1) (map entry_of ds)))
        ≡ map facts_of (cond b (d ∷ filter (λ d. test (class_for d)) ds) (filter (λ d. test (class_for d)) ds))
    by true more = ap (λ z. facts_of d ∷ z) more
    by false more = more

-- Items with the texts of others count alike.
pub count_with-map : {X Y : Type 0} (f : X → Y) (texts : Y → List (List ℕ)) (others : X → List (List ℕ))
    → ((x : X) → texts (f x) ≡ others x) → (value : List ℕ) (xs : List X)
    → count_with texts value (map f xs) ≡ count_with others value xs
count_with-map f texts others same value [] = refl
count_with-map {X} f texts others same value (x ∷ xs) =
    by (has_text texts value (f x)) (has_text others value x) passes (count_with-map f texts others same value xs)
  where
    passes : has_text texts value (f x) ≡ has_text others value x
    passes = ap (λ (ts : List (List ℕ)). has_text (λ (_ : X). ts) value x) (same x)

    by : (a b : Bool) → a ≡ b → count_with texts value (map f xs) ≡ count_with others value xs
        → length (cond a (f x ∷ filter (has_text texts value) (map f xs)) (filter (has_text texts value) (map f xs)))
        ≡ length (cond b (x ∷ filter (has_text others value) xs) (filter (has_text others value) xs))
    by true true e more = cc
    by false false e more = more
    by true false e more = absurd (cc)
    by false true e more = absurd (cc)

flat_map-map : {X Y Z : Type 0} (f : X → Y) (g : Y → List Z) (h : X → List Z) → ((x : X) → g (f x) ≡ h x)
    → (xs : List X) → flat_map g (map f xs) ≡ flat_map h xs
flat_map-map f g h same [] = refl
flat_map-map f g h same (x ∷ xs) = ap₂ (λ a b. a ++ b) (same x) (flat_map-map f g h same xs)

map-same : {X Y : Type 0} (f g : X → Y) → ((x : X) → f x ≡ g x) → (xs : List X) → map f xs ≡ map g xs
map-same f g same [] = refl
map-same f g same (x ∷ xs) = ap₂ (λ y ys. y ∷ ys) (same x) (map-same f g same xs)

pub counts_by-map : {X Y : Type 0} (f : X → Y) (texts : Y → List (List ℕ)) (others : X → List (List ℕ))
    → ((x : X) → texts (f x) ≡ others x) → (xs : List X) → counts_by texts (map f xs) ≡ counts_by others xs
counts_by-map f texts others same xs =
    ap (λ (all : List (List ℕ)). ascending facet_cmp
    (map (λ value. (value, count_with texts value (map f xs))) (text_set (filter is_value all))))
    (flat_map-map f texts others same xs)
    ∙ ap (ascending facet_cmp)
    (map-same (λ value. (value, count_with texts value (map f xs))) (λ value. (value, count_with others value xs))
    (λ value. ap (λ (n : ℕ). (value, n)) (count_with-map f texts others same value xs)) (values_among others xs))

-- ---- the datasets at some numbers

-- The values of one dataset more follow the others.
pub values-more : (field : FacetField) (shelf : ShelfState) (numbers : List ℕ) (i : ℕ) (d : Package)
    (before after : List (List ℕ)) → i < length numbers → package_at (get_or numbers i 0) shelf ≡ Some d
    → before ≡ flat_map (λ dataset. own_values (texts_in field dataset)) (datasets_at shelf (take i numbers))
    → after ≡ before ++ own_values (texts_in field d)
    → after ≡ flat_map (λ dataset. own_values (texts_in field dataset)) (datasets_at shelf (take (i + 1) numbers))
values-more field shelf numbers i d before after within there so_far added =
    added ∙ ap (λ (values : List (List ℕ)). values ++ own_values (texts_in field d)) so_far
    ∙ sym (ap (flat_map (λ dataset. own_values (texts_in field dataset))) (datasets_at-more shelf numbers i d within there)
    ∙ flat_map-append (λ dataset. own_values (texts_in field dataset)) (datasets_at shelf (take i numbers)) (d ∷ [])
    ∙ ap (λ (values : List (List ℕ)). flat_map (λ dataset. own_values (texts_in field dataset))
    (datasets_at shelf (take i numbers)) ++ values) (append-nil (own_values (texts_in field d))))
