-- What a harvest leaves: datasets of listed IRIs, by names that ascend, and the same ones if all IRIs have records.
use Rattle.std.proofs.Common.{◌≡◌, ℕ, Bool, true, false, ◌&&◌, List, [], ◌∷◌, Option, Some, None, refl, sym, ap, ap₂, ◌∙◌, ◌==◌}
use Rattle.std.proofs.Common.{inl, inr, ◌⊎◌, cond, subst, Contains}
use Rattle.std.specs.Prelude.{IsTrue, All}
use Rattle.std.specs.declared.cmp.Ordering.{Ordering}
use Rattle.std.specs.Ordering.{nat_cmp}
use Rattle.std.specs.Cmp.Lexicographic.{slice_cmp}
use Rattle.std.specs.List.{cons_option, filter_map, list_all, find}
use Rattle.std.specs.Str.{bytes_eq}
use Rattle.std.proofs.lemmas.Bool.{and_parts}
use Rattle.std.proofs.lemmas.Slice.Eq.{bytes_eq-Decides}
use Rattle.portal_base.specs.Ordered.{IsAscending, IsBelowAll}
use Rattle.portal_base.proofs.Filtered.{list_all-IsIn}
use Rattle.portal_base.proofs.Unique.{IsIn, Contains-IsIn}
use Rattle.portal_base.proofs.Upserted.{All-each, All-IsIn}
use Rattle.packages.specs.Order.{dataset_cmp}
use Rattle.packages.specs.declared.package.Package.{Package}
use Rattle.packages.proofs.FindLemmas.{IsIn-find}
use Rattle.harvest_records.specs.Names.{harvested_name}
use Rattle.harvest_records.specs.declared.record.HarvestRecord.{HarvestRecord}
use Rattle.harvest_results.specs.Harvested.{harvested_dataset}
use Rattle.harvest_results.specs.Readings.{CatalogueReading, ListedIri, is_good, is_listed, is_whole, items_by_iri}
use Rattle.harvest_results.specs.Readings.{item_name, least_named, listed_names}
use Rattle.harvest_results.specs.Readings.CatalogueReading.{Broken, Listed}
use Rattle.harvest_results.specs.Results.{dataset_left, dataset_of_item, datasets_after, datasets_afresh}
use Rattle.harvest_results.specs.Results.{IsOwn, IsRead, harvested_or, kept_dataset}
use Rattle.harvest_sources.specs.declared.reading.Reading.{Reading}
use Rattle.harvest_sources.specs.declared.reading.Reading.TheVariants.{Good, Bad}
use Rattle.harvest_sources.specs.declared.source.HarvestSource.{HarvestSource}
use Rattle.harvest_results.proofs.ItemLemmas.{IsAscending-listed_names, IsIn-listed, IsIn-listed_names, found-name}

-- ---- what is left at each name

filter_map-same : {X Y : Type 0} (f g : X → Option Y) → ((x : X) → f x ≡ g x) → (xs : List X)
    → filter_map f xs ≡ filter_map g xs
filter_map-same f g same [] = refl
filter_map-same f g same (x ∷ xs) =
    ap (λ o. cons_option o (filter_map f xs)) (same x) ∙ ap (cons_option (g x)) (filter_map-same f g same xs)

-- Each item of the result is what the function gives of an item.
pub filter_map-IsIn : {X Y : Type 0} (f : X → Option Y) (y : Y) (xs : List X) → IsIn y (filter_map f xs)
    → (x : X) × IsIn x xs × (f x ≡ Some y)
filter_map-IsIn f y [] m = absurd m
filter_map-IsIn {X} {Y} f y (x ∷ xs) m = by (f x) refl m (filter_map-IsIn f y xs)
  where
    by : (o : Option Y) → f x ≡ o → IsIn y (cons_option o (filter_map f xs))
        → (IsIn y (filter_map f xs) → (z : X) × IsIn z xs × (f z ≡ Some y))
        → (z : X) × IsIn z (x ∷ xs) × (f z ≡ Some y)
    by None e m go = let w = go m in (w.0, inr w.1, w.2)
    by (Some v) e (inl same) go = (x, inl refl, e ∙ ap Some (sym same))
    by (Some v) e (inr m) go = let w = go m in (w.0, inr w.1, w.2)

-- ---- all items have records

from_good : (first second : Option Package) (source : HarvestSource) (iri : List ℕ) (reading : Reading)
    → is_good reading ≡ true → harvested_or first source iri reading ≡ harvested_or second source iri reading
from_good first second source iri (Good r) good = refl
from_good first second source iri (Bad cause) good = absurd (cc)

-- The old datasets don't matter.
left-same : (old other : List Package) (source : HarvestSource) (items : List ListedIri)
    → list_all (λ (i : ListedIri). is_good i.reading) (items_by_iri items) ≡ true → (name : List ℕ)
    → dataset_left old source items name ≡ dataset_left other source items name
left-same old other source items good name = by (least_named source items name) refl
  where
    by : (o : Option ListedIri) → least_named source items name ≡ o
        → dataset_of_item (kept_dataset old items name) source o
        ≡ dataset_of_item (kept_dataset other items name) source o
    by None is = refl
    by (Some item) is =
        let there = IsIn-find (λ (i : ListedIri). bytes_eq (item_name source i) name) item (items_by_iri items) is in
        from_good (kept_dataset old items name) (kept_dataset other items name) source item.iri item.reading
        (list_all-IsIn (λ (i : ListedIri). is_good i.reading) (items_by_iri items) good item there.0)

pub whole-same : (old : List Package) (reading : CatalogueReading) → IsTrue (is_whole reading)
    → datasets_after old reading ≡ datasets_afresh reading
whole-same old (Broken cause) whole = absurd (cc)
whole-same old (Listed source items unnamed) whole =
    filter_map-same (dataset_left old source items) (dataset_left [] source items)
    (left-same old [] source items
    (and_parts (list_all (λ (i : ListedIri). is_good i.reading) (items_by_iri items)) (unnamed == 0) whole).0)
    (listed_names source items)

-- ---- what is left has a listed IRI, and the name

kept-parts : (old : List Package) (items : List ListedIri) (name : List ℕ) (d : Package)
    → kept_dataset old items name ≡ Some d → (is_listed items d.iri ≡ true) × (d.name ≡ name)
kept-parts old items name d is =
    let there = IsIn-find (λ (e : Package). bytes_eq e.name name && is_listed items e.iri) d old is in
    let parts = and_parts (bytes_eq d.name name) (is_listed items d.iri) there.1 in
    (parts.1, (bytes_eq-Decides d.name name).0 parts.0)

left-parts : (old : List Package) (source : HarvestSource) (items : List ListedIri) (name : List ℕ) (d : Package)
    → dataset_left old source items name ≡ Some d → (is_listed items d.iri ≡ true) × (d.name ≡ name)
unfolding harvested_dataset
left-parts old source items name d left = by (least_named source items name) refl left
  where
    of_reading : (item : ListedIri) (reading : Reading) → IsIn item items → item_name source item ≡ name
        → harvested_or (kept_dataset old items name) source item.iri reading ≡ Some d
        → (is_listed items d.iri ≡ true) × (d.name ≡ name)
    of_reading item (Good r) m named is =
        let iri : d.iri ≡ item.iri = cc in
        let name_of : d.name ≡ harvested_name source.name item.iri = cc in
        (ap (is_listed items) iri ∙ IsIn-listed item items m, name_of ∙ named)
    of_reading item (Bad cause) m named is = kept-parts old items name d is

    by : (o : Option ListedIri) → least_named source items name ≡ o
        → dataset_of_item (kept_dataset old items name) source o ≡ Some d
        → (is_listed items d.iri ≡ true) × (d.name ≡ name)
    by None found is = absurd (cc)
    by (Some item) found is =
        let there = found-name source items name item found in of_reading item item.reading there.0 there.1 is

pub after-listed : (old : List Package) (source : HarvestSource) (items : List ListedIri) (unnamed : ℕ)
    → All (λ (d : Package). IsTrue (is_listed items d.iri)) (datasets_after old (Listed source items unnamed))
after-listed old source items unnamed =
    All-each (λ (d : Package). IsTrue (is_listed items d.iri)) (datasets_after old (Listed source items unnamed))
    (λ d m. let w = filter_map-IsIn (dataset_left old source items) d (listed_names source items) m in
    (left-parts old source items w.0 d w.2).0)

-- ---- names ascend

IsBelowAll-filter_map : {X Y : Type 0} (cmp : X → X → Ordering) (key : Y → X) (f : X → Option Y)
    → ((x : X) (y : Y) → f x ≡ Some y → key y ≡ x) → (a : Y) (x : X) → key a ≡ x → (xs : List X)
    → IsBelowAll cmp x xs → IsBelowAll (λ (y z : Y). cmp (key y) (key z)) a (filter_map f xs)
IsBelowAll-filter_map cmp key f keys a x is [] below = tt
IsBelowAll-filter_map {X} {Y} cmp key f keys a x is (z ∷ zs) below =
    by (f z) refl (IsBelowAll-filter_map cmp key f keys a x is zs below.1)
  where
    by : (o : Option Y) → f z ≡ o → IsBelowAll (λ (y w : Y). cmp (key y) (key w)) a (filter_map f zs)
        → IsBelowAll (λ (y w : Y). cmp (key y) (key w)) a (cons_option o (filter_map f zs))
    by None e rest = rest
    by (Some y) e rest = (ap₂ cmp is (keys z y e) ∙ below.0, rest)

IsAscending-filter_map : {X Y : Type 0} (cmp : X → X → Ordering) (key : Y → X) (f : X → Option Y)
    → ((x : X) (y : Y) → f x ≡ Some y → key y ≡ x) → (xs : List X) → IsAscending cmp xs
    → IsAscending (λ (y z : Y). cmp (key y) (key z)) (filter_map f xs)
IsAscending-filter_map cmp key f keys [] up = tt
IsAscending-filter_map {X} {Y} cmp key f keys (x ∷ xs) up =
    by (f x) refl (IsAscending-filter_map cmp key f keys xs up.1)
  where
    by : (o : Option Y) → f x ≡ o → IsAscending (λ (y z : Y). cmp (key y) (key z)) (filter_map f xs)
        → IsAscending (λ (y z : Y). cmp (key y) (key z)) (cons_option o (filter_map f xs))
    by None e rest = rest
    by (Some y) e rest = (IsBelowAll-filter_map cmp key f keys y x (keys x y e) xs up.0, rest)

pub after-ascending : (old : List Package) (source : HarvestSource) (items : List ListedIri) (unnamed : ℕ)
    → IsAscending (λ (d e : Package). slice_cmp nat_cmp d.name e.name)
    (datasets_after old (Listed source items unnamed))
after-ascending old source items unnamed =
    IsAscending-filter_map (slice_cmp nat_cmp) (λ (d : Package). d.name) (dataset_left old source items)
    (λ name d is. (left-parts old source items name d is).1) (listed_names source items)
    (IsAscending-listed_names source items)

-- ---- a look-up of what is left

-- A list that is made by name has at each name what was made of it.
find-filter_map : (f : List ℕ → Option Package) → ((name : List ℕ) (d : Package) → f name ≡ Some d → d.name ≡ name)
    → (name : List ℕ) (names : List (List ℕ)) → IsIn name names ⊎ (f name ≡ None)
    → find (λ (d : Package). bytes_eq d.name name) (filter_map f names) ≡ f name
find-filter_map f named name [] (inl m) = absurd m
find-filter_map f named name [] (inr none) = sym none
find-filter_map f named name (n ∷ ns) there = by (f n) refl (elsewhere there) (find-filter_map f named name ns)
  where
    elsewhere : IsIn name (n ∷ ns) ⊎ (f name ≡ None) → (name ≡ n) ⊎ (IsIn name ns ⊎ (f name ≡ None))
    elsewhere (inl (inl same)) = inl same
    elsewhere (inl (inr m)) = inr (inl m)
    elsewhere (inr none) = inr (inr none)

    at_item : (d : Package) → f n ≡ Some d → (b : Bool) → bytes_eq d.name name ≡ b
        → (name ≡ n) ⊎ (IsIn name ns ⊎ (f name ≡ None))
        → (IsIn name ns ⊎ (f name ≡ None)
        → find (λ (e : Package). bytes_eq e.name name) (filter_map f ns) ≡ f name)
        → cond b (Some d) (find (λ (e : Package). bytes_eq e.name name) (filter_map f ns)) ≡ f name
    at_item d e true like m go =
        sym e ∙ ap f (sym (named n d e) ∙ (bytes_eq-Decides d.name name).0 like)
    at_item d e false unlike (inl same) go =
        let yes : bytes_eq d.name name ≡ true = (bytes_eq-Decides d.name name).1 (named n d e ∙ sym same) in
        absurd (cc)
    at_item d e false unlike (inr m) go = go m

    by : (o : Option Package) → f n ≡ o → (name ≡ n) ⊎ (IsIn name ns ⊎ (f name ≡ None))
        → (IsIn name ns ⊎ (f name ≡ None)
        → find (λ (e : Package). bytes_eq e.name name) (filter_map f ns) ≡ f name)
        → find (λ (e : Package). bytes_eq e.name name) (cons_option o (filter_map f ns)) ≡ f name
    by None e (inl same) go = go (inr (ap f same ∙ e))
    by None e (inr m) go = go m
    by (Some d) e m go = at_item d e (bytes_eq d.name name) refl m go

-- A name is listed, or leaves nothing.
listed_or_none : (old : List Package) (source : HarvestSource) (items : List ListedIri) (name : List ℕ)
    → IsIn name (listed_names source items) ⊎ (dataset_left old source items name ≡ None)
listed_or_none old source items name = by (least_named source items name) refl
  where
    by : (o : Option ListedIri) → least_named source items name ≡ o
        → IsIn name (listed_names source items) ⊎ (dataset_of_item (kept_dataset old items name) source o ≡ None)
    by None found = inr refl
    by (Some item) found =
        let there = found-name source items name item found in
        inl (subst (λ (n : List ℕ). IsIn n (listed_names source items)) there.1
        (IsIn-listed_names source item items there.0))

pub find-after : (old : List Package) (source : HarvestSource) (items : List ListedIri) (unnamed : ℕ) (name : List ℕ)
    → find (λ (d : Package). bytes_eq d.name name) (datasets_after old (Listed source items unnamed))
    ≡ dataset_left old source items name
find-after old source items unnamed name =
    find-filter_map (dataset_left old source items) (λ n d is. (left-parts old source items n d is).1) name
    (listed_names source items) (listed_or_none old source items name)

-- ---- a second harvest

find-all : {X : Type 0} (p q : X → Bool) (xs : List X) → ((x : X) → IsIn x xs → q x ≡ true)
    → find (λ x. p x && q x) xs ≡ find p xs
find-all p q [] all = refl
find-all {X} p q (x ∷ xs) all =
    ap₂ (λ (b : Bool) (o : Option X). cond b (Some x) o) (and_with (p x) (q x) (all x (inl refl)))
    (find-all p q xs (λ y m. all y (inr m)))
  where
    and_with : (a b : Bool) → b ≡ true → (a && b) ≡ a
    and_with true b h = h
    and_with false b h = refl

kept-again : (old : List Package) (source : HarvestSource) (items : List ListedIri) (unnamed : ℕ) (name : List ℕ)
    → kept_dataset (datasets_after old (Listed source items unnamed)) items name
    ≡ dataset_left old source items name
kept-again old source items unnamed name =
    let after = datasets_after old (Listed source items unnamed) in
    find-all (λ (d : Package). bytes_eq d.name name) (λ (d : Package). is_listed items d.iri) after
    (λ d m. let w = filter_map-IsIn (dataset_left old source items) d (listed_names source items) m in
    (left-parts old source items w.0 d w.2).0)
    ∙ find-after old source items unnamed name

left-again : (old : List Package) (source : HarvestSource) (items : List ListedIri) (unnamed : ℕ) (name : List ℕ)
    → dataset_left (datasets_after old (Listed source items unnamed)) source items name
    ≡ dataset_left old source items name
left-again old source items unnamed name =
    ap (λ (kept : Option Package). dataset_of_item kept source (least_named source items name))
    (kept-again old source items unnamed name)
    ∙ by (least_named source items name)
  where
    of_reading : (kept : Option Package) (iri : List ℕ) (reading : Reading)
        → harvested_or (harvested_or kept source iri reading) source iri reading
        ≡ harvested_or kept source iri reading
    of_reading kept iri (Good r) = refl
    of_reading kept iri (Bad cause) = refl

    by : (o : Option ListedIri)
        → dataset_of_item (dataset_of_item (kept_dataset old items name) source o) source o
        ≡ dataset_of_item (kept_dataset old items name) source o
    by None = refl
    by (Some item) = of_reading (kept_dataset old items name) item.iri item.reading

pub after-again : (old : List Package) (reading : CatalogueReading)
    → datasets_after (datasets_after old reading) reading ≡ datasets_after old reading
after-again old (Broken cause) = refl
after-again old (Listed source items unnamed) =
    filter_map-same (dataset_left (datasets_after old (Listed source items unnamed)) source items)
    (dataset_left old source items) (left-again old source items unnamed) (listed_names source items)

-- ---- where a dataset comes from

left-origin : (old : List Package) (source : HarvestSource) (items : List ListedIri) (name : List ℕ) (d : Package)
    → dataset_left old source items name ≡ Some d → IsRead source items d ⊎ IsIn d old
left-origin old source items name d left = by (least_named source items name) refl left
  where
    of_reading : (item : ListedIri) (reading : Reading) → item.reading ≡ reading → IsIn item items
        → harvested_or (kept_dataset old items name) source item.iri reading ≡ Some d
        → IsRead source items d ⊎ IsIn d old
    of_reading item (Good r) read m is = inl (record {
      item = item;
      description = r;
      listed = Contains-IsIn item items m;
      read = read;
      gives = cc;
    })
    of_reading item (Bad cause) read m is =
        inr (IsIn-find (λ (e : Package). bytes_eq e.name name && is_listed items e.iri) d old is).0

    by : (o : Option ListedIri) → least_named source items name ≡ o
        → dataset_of_item (kept_dataset old items name) source o ≡ Some d → IsRead source items d ⊎ IsIn d old
    by None found is = absurd (cc)
    by (Some item) found is =
        of_reading item item.reading refl (found-name source items name item found).0 is

pub after-origin : (old : List Package) (source : HarvestSource) (items : List ListedIri) (unnamed : ℕ)
    → All (λ (d : Package). IsRead source items d ⊎ Contains old d)
    (datasets_after old (Listed source items unnamed))
after-origin old source items unnamed =
    All-each (λ (d : Package). IsRead source items d ⊎ Contains old d)
    (datasets_after old (Listed source items unnamed))
    (λ d m. let w = filter_map-IsIn (dataset_left old source items) d (listed_names source items) m in
    by d (left-origin old source items w.0 d w.2))
  where
    by : (d : Package) → IsRead source items d ⊎ IsIn d old → IsRead source items d ⊎ Contains old d
    by d (inl read) = inl read
    by d (inr n) = inr (Contains-IsIn d old n)

-- ---- a source's own datasets

pub IsOwn-harvested : (source : HarvestSource) (iri : List ℕ) (r : HarvestRecord)
    → IsOwn source (harvested_dataset source iri r)
unfolding harvested_dataset
IsOwn-harvested source iri r = record { of_source = refl; of_org = refl; named = refl; id_is_name = refl }

IsOwn-after : (old : List Package) (source : HarvestSource) (items : List ListedIri) (unnamed : ℕ)
    → All (IsOwn source) old → (d : Package) → IsIn d (datasets_after old (Listed source items unnamed))
    → IsOwn source d
IsOwn-after old source items unnamed own d m =
    let w = filter_map-IsIn (dataset_left old source items) d (listed_names source items) m in
    by (left-origin old source items w.0 d w.2)
  where
    by : IsRead source items d ⊎ IsIn d old → IsOwn source d
    by (inl read) =
        subst (IsOwn source) (sym read.gives) (IsOwn-harvested source read.item.iri read.description)
    by (inr n) = All-IsIn (IsOwn source) old own d n

pub after-own : (old : List Package) (source : HarvestSource) (items : List ListedIri) (unnamed : ℕ)
    → All (IsOwn source) old → All (IsOwn source) (datasets_after old (Listed source items unnamed))
after-own old source items unnamed own =
    All-each (IsOwn source) (datasets_after old (Listed source items unnamed))
    (IsOwn-after old source items unnamed own)

IsBelowAll-by_id : (d : Package) (ds : List Package) → d.id ≡ d.name → ((e : Package) → IsIn e ds → e.id ≡ e.name)
    → IsBelowAll (λ (e f : Package). slice_cmp nat_cmp e.name f.name) d ds → IsBelowAll dataset_cmp d ds
IsBelowAll-by_id d [] same all below = tt
IsBelowAll-by_id d (e ∷ es) same all below = (
  ap₂ (slice_cmp nat_cmp) same (all e (inl refl)) ∙ below.0,
  IsBelowAll-by_id d es same (λ f m. all f (inr m)) below.1,
)

IsAscending-by_id : (ds : List Package) → ((e : Package) → IsIn e ds → e.id ≡ e.name)
    → IsAscending (λ (e f : Package). slice_cmp nat_cmp e.name f.name) ds → IsAscending dataset_cmp ds
IsAscending-by_id [] all up = tt
IsAscending-by_id (d ∷ ds) all up = (
  IsBelowAll-by_id d ds (all d (inl refl)) (λ e m. all e (inr m)) up.0,
  IsAscending-by_id ds (λ e m. all e (inr m)) up.1,
)

pub after-by_id : (old : List Package) (source : HarvestSource) (items : List ListedIri) (unnamed : ℕ)
    → All (IsOwn source) old → IsAscending dataset_cmp (datasets_after old (Listed source items unnamed))
after-by_id old source items unnamed own =
    IsAscending-by_id (datasets_after old (Listed source items unnamed))
    (λ d m. (IsOwn-after old source items unnamed own d m).id_is_name)
    (after-ascending old source items unnamed)
