-- What the same reading counts again.
use Rattle.std.proofs.Common.{◌≡◌, ℕ, Bool, true, false, not, ◌&&◌, ◌||◌, List, [], ◌∷◌, Option, Some, None, refl, sym, ap, ◌∙◌}
use Rattle.std.proofs.Common.{inl, inr}
use Rattle.std.specs.List.{cons_option, count_by, filter_map, list_any}
use Rattle.std.specs.Str.{bytes_eq}
use Rattle.std.proofs.lemmas.Bool.{or_right}
use Rattle.std.proofs.lemmas.Slice.Eq.{bytes_eq-Decides}
use Rattle.portal_base.proofs.Unique.{IsIn}
use Rattle.packages.specs.declared.package.Package.{Package}
use Rattle.harvest_results.specs.Counts.{counts_of, has_equal_of, has_name_of}
use Rattle.harvest_results.specs.Equality.{equal_datasets}
use Rattle.harvest_results.specs.Readings.{CatalogueReading, ListedIri, least_named, listed_names}
use Rattle.harvest_results.specs.Readings.CatalogueReading.{Broken, Listed}
use Rattle.harvest_results.specs.Results.{dataset_left, dataset_of_item, datasets_after, datasets_afresh, harvested_or}
use Rattle.harvest_results.specs.Results.{kept_dataset}
use Rattle.harvest_sources.specs.declared.reading.Reading.{Reading}
use Rattle.harvest_sources.specs.declared.reading.Reading.TheVariants.{Good, Bad}
use Rattle.harvest_sources.specs.declared.source.HarvestSource.{HarvestSource}
use Rattle.harvest_results.proofs.EqualityLemmas.{Decides-dataset}
use Rattle.harvest_results.proofs.ResultLemmas.{after-again, filter_map-IsIn}

count_none : {X : Type 0} (p : X → Bool) (xs : List X) → ((x : X) → IsIn x xs → p x ≡ false) → count_by p xs ≡ 0
count_none p [] none = refl
count_none p (x ∷ xs) none =
    let here = none x (inl refl) in
    let rest = count_none p xs (λ y m. none y (inr m)) in
    rw (here, rest) refl

pub list_any-IsIn : {X : Type 0} (p : X → Bool) (x : X) (xs : List X) → IsIn x xs → p x ≡ true → list_any p xs ≡ true
list_any-IsIn p x [] m passes = absurd m
list_any-IsIn p x (y ∷ ys) (inl same) passes = ap (λ b. b || list_any p ys) (ap p (sym same) ∙ passes)
list_any-IsIn p x (y ∷ ys) (inr m) passes = or_right (p y) (list_any p ys) (list_any-IsIn p x ys m passes)

pub filtered-IsIn : {X Y : Type 0} (f : X → Option Y) (x : X) (y : Y) (xs : List X) → IsIn x xs → f x ≡ Some y
    → IsIn y (filter_map f xs)
filtered-IsIn f x y [] m is = absurd m
filtered-IsIn {X} {Y} f x y (z ∷ zs) (inl same) is = by (f z) (ap f (sym same) ∙ is)
  where
    by : (o : Option Y) → o ≡ Some y → IsIn y (cons_option o (filter_map f zs))
    by None e = absurd (cc)
    by (Some v) e = let here : y ≡ v = cc in inl here
filtered-IsIn {X} {Y} f x y (z ∷ zs) (inr m) is = by (f z) (filtered-IsIn f x y zs m is)
  where
    by : (o : Option Y) → IsIn y (filter_map f zs) → IsIn y (cons_option o (filter_map f zs))
    by None n = n
    by (Some v) n = inr n

pub has_name : (d : Package) (ds : List Package) → IsIn d ds → has_name_of ds d ≡ true
has_name d ds m =
    list_any-IsIn (λ (e : Package). bytes_eq e.name d.name) d ds m ((bytes_eq-Decides d.name d.name).1 refl)

has_equal : (d : Package) (ds : List Package) → IsIn d ds → has_equal_of ds d ≡ true
has_equal d ds m = list_any-IsIn (λ (e : Package). equal_datasets e d) d ds m ((Decides-dataset d d).1 refl)

-- The datasets of the records are left.
left-fresh : (old : List Package) (source : HarvestSource) (items : List ListedIri) (name : List ℕ) (d : Package)
    → dataset_left [] source items name ≡ Some d → dataset_left old source items name ≡ Some d
left-fresh old source items name d is = by (least_named source items name) is
  where
    of_reading : (iri : List ℕ) (reading : Reading)
        → harvested_or (kept_dataset [] items name) source iri reading ≡ Some d
        → harvested_or (kept_dataset old items name) source iri reading ≡ Some d
    of_reading iri (Good r) e = e
    of_reading iri (Bad cause) e = absurd (cc)

    by : (o : Option ListedIri) → dataset_of_item (kept_dataset [] items name) source o ≡ Some d
        → dataset_of_item (kept_dataset old items name) source o ≡ Some d
    by None e = absurd (cc)
    by (Some item) e = of_reading item.iri item.reading e

fresh-IsIn : (old : List Package) (source : HarvestSource) (items : List ListedIri) (unnamed : ℕ) (d : Package)
    → IsIn d (datasets_afresh (Listed source items unnamed)) → IsIn d (datasets_after old (Listed source items unnamed))
fresh-IsIn old source items unnamed d m =
    let w = filter_map-IsIn (dataset_left [] source items) d (listed_names source items) m in
    filtered-IsIn (dataset_left old source items) w.0 d (listed_names source items) w.1
    (left-fresh old source items w.0 d w.2)

pub added-again : (old : List Package) (reading : CatalogueReading)
    → (counts_of (datasets_after old reading) reading).added ≡ 0
added-again old (Broken cause) = refl
added-again old (Listed source items unnamed) =
    let after = datasets_after old (Listed source items unnamed) in
    ap (count_by (λ (d : Package). not (has_name_of after d))) (after-again old (Listed source items unnamed))
    ∙ count_none (λ (d : Package). not (has_name_of after d)) after (λ d m. ap not (has_name d after m))

pub deleted-again : (old : List Package) (reading : CatalogueReading)
    → (counts_of (datasets_after old reading) reading).deleted ≡ 0
deleted-again old (Broken cause) = refl
deleted-again old (Listed source items unnamed) =
    let after = datasets_after old (Listed source items unnamed) in
    ap (λ (ds : List Package). count_by (λ (d : Package). not (has_name_of ds d)) after)
    (after-again old (Listed source items unnamed))
    ∙ count_none (λ (d : Package). not (has_name_of after d)) after (λ d m. ap not (has_name d after m))

pub updated-again : (old : List Package) (reading : CatalogueReading)
    → (counts_of (datasets_after old reading) reading).updated ≡ 0
updated-again old (Broken cause) = refl
updated-again old (Listed source items unnamed) =
    let after = datasets_after old (Listed source items unnamed) in
    count_none (λ (d : Package). has_name_of after d && not (has_equal_of after d))
    (datasets_afresh (Listed source items unnamed))
    (λ d m. let n = fresh-IsIn old source items unnamed d m in
    ap (λ b. b && not (has_equal_of after d)) (has_name d after n) ∙ ap not (has_equal d after n))
