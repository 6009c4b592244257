-- What the report of an ended job counts.
use Rattle.std.proofs.Common.{◌≡◌, ℕ, suc, Bool, true, false, not, ◌&&◌, cond, List, [], ◌∷◌, length, map, Option, Some}
use Rattle.std.proofs.Common.{None}
use Rattle.std.proofs.Common.{refl, sym, ap, ap₂, ◌∙◌, subst, inl, inr, ◌⊎◌, true≢false, arith}
use Rattle.std.specs.Prelude.{filter, is_some, option_and_then, option_map}
use Rattle.std.specs.Option.{option_map_or}
use Rattle.std.specs.declared.cmp.Ordering.TheVariants.{Less, Equal}
use Rattle.std.specs.List.{cons_option, count_by, filter_map, find, list_all}
use Rattle.std.specs.Ordering.{is_eq}
use Rattle.std.specs.Str.{bytes_eq}
use Rattle.std.proofs.lemmas.List.Sums.{length-filter}
use Rattle.std.proofs.lemmas.Map.Text.{is_eq-slice_cmp}
use Rattle.std.proofs.lemmas.Slice.Eq.{bytes_eq-Decides}
use Rattle.portal_base.specs.Ordered.{IsAscending, ascending}
use Rattle.portal_base.proofs.Filtered.{IsIn-filter, filter-all, filter-filter, is_some-find_any, list_all-IsIn}
use Rattle.portal_base.proofs.Inserted.{AreApart, IsAscending-ascending}
use Rattle.portal_base.proofs.Unique.{IsIn, IsIn-ascending, ascending-IsIn, below_in, unique}
use Rattle.packages.specs.declared.package.Package.{Package}
use Rattle.packages.proofs.FindLemmas.{IsIn-find, IsIn-map, count-ascending, fails, find-alone, find-none, map-IsIn}
use Rattle.packages.proofs.FindLemmas.{none-list_any}
use Rattle.harvest_records.specs.Names.{harvested_name}
use Rattle.harvest_records.specs.declared.record.HarvestRecord.{HarvestRecord}
use Rattle.harvest_sources.specs.Listings.{bad_object, cause_of, first_items, is_added, is_done, is_unchanged}
use Rattle.harvest_sources.specs.Listings.{is_updated}
use Rattle.harvest_sources.specs.Listings.{item_cmp, outcome_if_done, outcomes}
use Rattle.harvest_sources.specs.Steps.{outcome_of}
use Rattle.harvest_sources.specs.declared.cause.Cause.{Cause}
use Rattle.harvest_sources.specs.declared.cause.Cause.TheVariants.{SameName}
use Rattle.harvest_sources.specs.declared.listing.ListedObject.{ListedObject}
use Rattle.harvest_sources.specs.declared.listing.Listing.{Listing}
use Rattle.harvest_sources.specs.declared.listing.Outcome.{Outcome}
use Rattle.harvest_sources.specs.declared.listing.Outcome.TheVariants as outcome
use Rattle.harvest_sources.specs.declared.reading.Reading.{Reading}
use Rattle.harvest_sources.specs.declared.reading.Reading.TheVariants.{Good, Bad}
use Rattle.harvest_sources.specs.declared.source.HarvestSource.{HarvestSource}
use Rattle.harvest_sources.specs.declared.step.Effect.TheVariants as effect
use Rattle.harvest_sources.specs.declared.step.Item.{Item}
use Rattle.harvest_results.specs.Counts.{bad_item, bad_of, bad_reading, counts_of, has_equal_of, has_name_of}
use Rattle.harvest_results.specs.Effects.{effect_of_put, effect_over}
use Rattle.harvest_results.specs.Equality.{equal_datasets}
use Rattle.harvest_results.specs.Harvested.{harvested_dataset}
use Rattle.harvest_results.specs.Histories.{Gathered, read_item, reading_of, reading_or_namesake}
use Rattle.harvest_results.specs.Readings.{ListedIri, is_listed, least_named, listed_names}
use Rattle.harvest_results.specs.Results.{dataset_left, dataset_of_item, datasets_after, datasets_afresh, harvested_or}
use Rattle.harvest_results.specs.Results.{kept_dataset}
use Rattle.harvest_results.proofs.BalanceLemmas.{balance, count-rest, same-count}
use Rattle.harvest_results.proofs.ChangeLemmas.{lists}
use Rattle.harvest_results.proofs.CountLemmas.{filtered-IsIn, has_name, list_any-IsIn}
use Rattle.harvest_results.proofs.EndingLemmas.{IsAscending-first_items, alone-name, first-free, item_cmp_total}
use Rattle.harvest_results.proofs.EndingLemmas.{items_by_iri-read, least-read, settled-after}
use Rattle.harvest_results.proofs.EqualityLemmas.{Decides-dataset}
use Rattle.harvest_results.proofs.LookupLemmas.{name_cmp, name_cmp_total}
use Rattle.harvest_results.proofs.ResultLemmas.{after-ascending, filter_map-IsIn, find-after}
use Rattle.harvest_results.proofs.SettlingLemmas.{IsSettling, cause_in, dataset_named, dataset_of, expected}
use Rattle.harvest_results.proofs.SettlingLemmas.{expected_outcome}
use Rattle.harvest_results.proofs.SettlingLemmas.{harvested-iri, harvested-name, is_shadowed, outcome_on, read_named}
use Rattle.harvest_results.proofs.SettlingLemmas.{read_of, settled_or}
use Rattle.harvest_results.proofs.SettlingLemmas.{unshadowed-same}
use Rattle.harvest_results.proofs.SourceEntryLemmas.{same_bytes, same_member}

-- ---- objects beside items

filter_map-map : {X Y Z : Type 0} (f : Y → Option Z) (k : X → Y) (xs : List X)
    → filter_map f (map k xs) ≡ filter_map (λ x. f (k x)) xs
filter_map-map f k [] = refl
filter_map-map f k (x ∷ xs) = ap (cons_option (f (k x))) (filter_map-map f k xs)

filter_map-pairs : {Z : Type 0} (f : ListedObject → Option Z) (k : Item → Option Z) (os : List ListedObject)
    (is : List Item)
    → map (λ (o : ListedObject). o.iri) os ≡ map (λ (i : Item). i.iri) is
    → ((o : ListedObject) (i : Item) → IsIn o os → IsIn i is → o.iri ≡ i.iri → f o ≡ k i)
    → filter_map f os ≡ filter_map k is
filter_map-pairs f k [] [] iris each = refl
filter_map-pairs f k [] (i ∷ is) iris each = absurd (cc)
filter_map-pairs f k (o ∷ os) [] iris each = absurd (cc)
filter_map-pairs f k (o ∷ os) (i ∷ is) iris each =
    let first : o.iri ≡ i.iri = cc in
    let rest : map (λ (o : ListedObject). o.iri) os ≡ map (λ (i : Item). i.iri) is = cc in
    ap (λ p. cons_option p (filter_map f os)) (each o i (inl refl) (inl refl) first)
    ∙ ap (cons_option (k i)) (filter_map-pairs f k os is rest (λ p j m n. each p j (inr m) (inr n)))

more : {X Y : Type 0} (b : Bool) (x : X) (y : Y) (xs : List X) (ys : List Y) → length xs ≡ length ys
    → length (cond b (x ∷ xs) xs) ≡ length (cond b (y ∷ ys) ys)
more true x y xs ys same = ap suc same
more false x y xs ys same = same

-- the outcome of the object is counted where the item's dataset is
abbrev CountsAlike : (Outcome → Bool) → (Package → Bool) → Option Package → ListedObject → Type 0
CountsAlike t p d o =
    (out : Outcome) × (outcome_if_done o.progress ≡ Some out) × (t out ≡ option_map_or p d false)

count-pairs : (t : Outcome → Bool) (p : Package → Bool) (f : Item → Option Package) (os : List ListedObject)
    (is : List Item)
    → map (λ (o : ListedObject). o.iri) os ≡ map (λ (i : Item). i.iri) is
    → ((o : ListedObject) (i : Item) → IsIn o os → IsIn i is → o.iri ≡ i.iri → CountsAlike t p (f i) o)
    → length (filter t (filter_map (λ (o : ListedObject). outcome_if_done o.progress) os))
    ≡ length (filter p (filter_map f is))
count-pairs t p f [] [] iris each = refl
count-pairs t p f [] (i ∷ is) iris each = absurd (cc)
count-pairs t p f (o ∷ os) [] iris each = absurd (cc)
count-pairs t p f (o ∷ os) (i ∷ is) iris each =
    let first : o.iri ≡ i.iri = cc in
    let rest : map (λ (o : ListedObject). o.iri) os ≡ map (λ (i : Item). i.iri) is = cc in
    let w = each o i (inl refl) (inl refl) first in
    ap (λ (q : Option Outcome). length (filter t
    (cons_option q (filter_map (λ (o : ListedObject). outcome_if_done o.progress) os)))) w.1
    ∙ by w.0 (t w.0) (f i) w.2 (count-pairs t p f os is rest (λ q j m n. each q j (inr m) (inr n)))
  where
    xs : List Outcome
    xs = filter t (filter_map (λ (o : ListedObject). outcome_if_done o.progress) os)

    by : (out : Outcome) (b : Bool) (q : Option Package) → b ≡ option_map_or p q false
        → length xs ≡ length (filter p (filter_map f is))
        → length (cond b (out ∷ xs) xs) ≡ length (filter p (cons_option q (filter_map f is)))
    by out true None e same = absurd (true≢false e)
    by out false None e same = same
    by out b (Some d) e same =
        ap (λ (c : Bool). length (cond c (out ∷ xs) xs)) e ∙ more (p d) out d xs (filter p (filter_map f is)) same

-- ---- the effect of a dataset that is put

-- A new name is added, a dataset that equals an old one is unchanged, and others are updated.
effects : (old : List Package) → IsAscending name_cmp old → (r : HarvestRecord) (d : Package)
    → (is_added (outcome_of (Good r) (effect_of_put old (Some d))) ≡ not (has_name_of old d))
    × (is_updated (outcome_of (Good r) (effect_of_put old (Some d)))
    ≡ (has_name_of old d && not (has_equal_of old d)))
    × (is_unchanged (outcome_of (Good r) (effect_of_put old (Some d))) ≡ has_equal_of old d)
effects old up r d = by (find test old) refl
  where
    test : Package → Bool
    test e = bytes_eq e.name d.name

    equal : (e : Package) → find test old ≡ Some e → (b : Bool) → equal_datasets e d ≡ b
        → (is_added (outcome_of (Good r) (cond b effect.Unchanged effect.Updated)) ≡ not (has_name_of old d))
        × (is_updated (outcome_of (Good r) (cond b effect.Unchanged effect.Updated))
        ≡ (has_name_of old d && not (has_equal_of old d)))
        × (is_unchanged (outcome_of (Good r) (cond b effect.Unchanged effect.Updated)) ≡ has_equal_of old d)
    equal e is true like =
        let there = IsIn-find test e old is in
        let named : has_name_of old d ≡ true = sym (is_some-find_any test old) ∙ ap is_some is in
        let same : has_equal_of old d ≡ true =
        list_any-IsIn (λ (x : Package). equal_datasets x d) e old there.0 like in
        (sym (ap not named), sym (ap₂ (λ a b. a && not b) named same), sym same)
    equal e is false unlike =
        let there = IsIn-find test e old is in
        let named : has_name_of old d ≡ true = sym (is_some-find_any test old) ∙ ap is_some is in
        let none : has_equal_of old d ≡ false =
        none-list_any (λ (x : Package). equal_datasets x d) old (λ x m. fails (equal_datasets x d) (λ like.
        let same : x ≡ d = (Decides-dataset x d).0 like in
        let alone : x ≡ e = alone-name d.name old up x e m there.0
        ((bytes_eq-Decides x.name d.name).1 (ap (λ (y : Package). y.name) same)) there.1 in
        true≢false (sym like ∙ ap (λ (y : Package). equal_datasets y d) alone ∙ unlike))) in
        (sym (ap not named), sym (ap₂ (λ a b. a && not b) named none), sym none)

    by : (o : Option Package) → find test old ≡ o
        → (is_added (outcome_of (Good r) (effect_over d o)) ≡ not (has_name_of old d))
        × (is_updated (outcome_of (Good r) (effect_over d o)) ≡ (has_name_of old d && not (has_equal_of old d)))
        × (is_unchanged (outcome_of (Good r) (effect_over d o)) ≡ has_equal_of old d)
    by None is =
        let named : has_name_of old d ≡ false = sym (is_some-find_any test old) ∙ ap is_some is in
        let none : has_equal_of old d ≡ false =
        none-list_any (λ (x : Package). equal_datasets x d) old (λ x m. fails (equal_datasets x d) (λ like.
        let same : x ≡ d = (Decides-dataset x d).0 like in
        true≢false (sym ((bytes_eq-Decides x.name d.name).1 (ap (λ (y : Package). y.name) same))
        ∙ find-none test x old is m))) in
        (sym (ap not named), sym (ap (λ b. b && not (has_equal_of old d)) named), sym none)
    by (Some e) is = equal e is (equal_datasets e d) refl

added-on : (source : HarvestSource) (old : List Package) → IsAscending name_cmp old → (read : ListedIri)
    (reading : Reading)
    → is_added (outcome_of reading (effect_of_put old (dataset_of source read.iri reading)))
    ≡ option_map_or (λ (d : Package). not (has_name_of old d)) (dataset_of source read.iri reading) false
added-on source old up read (Good r) = (effects old up r (harvested_dataset source read.iri r)).0
added-on source old up read (Bad cause) = refl

updated-on : (source : HarvestSource) (old : List Package) → IsAscending name_cmp old → (read : ListedIri)
    (reading : Reading)
    → is_updated (outcome_of reading (effect_of_put old (dataset_of source read.iri reading)))
    ≡ option_map_or (λ (d : Package). has_name_of old d && not (has_equal_of old d))
    (dataset_of source read.iri reading) false
updated-on source old up read (Good r) = (effects old up r (harvested_dataset source read.iri r)).1
updated-on source old up read (Bad cause) = refl

unchanged-on : (source : HarvestSource) (old : List Package) → IsAscending name_cmp old → (read : ListedIri)
    (reading : Reading)
    → is_unchanged (outcome_of reading (effect_of_put old (dataset_of source read.iri reading)))
    ≡ option_map_or (has_equal_of old) (dataset_of source read.iri reading) false
unchanged-on source old up read (Good r) = (effects old up r (harvested_dataset source read.iri r)).2
unchanged-on source old up read (Bad cause) = refl

-- ---- the datasets of the items' records

abbrev good_of : HarvestSource → Gathered → Item → Option Package
good_of source g item =
    option_and_then (λ (read : ListedIri). dataset_of source read.iri read.reading) (read_of g.settled item.iri)

record IsGood (source : HarvestSource) (g : Gathered) (item : Item) (d : Package) : Type 0 where
  pub read : ListedIri
  pub description : HarvestRecord
  pub is : read_of g.settled item.iri ≡ Some read
  pub good : read.reading ≡ Good description
  pub gives : d ≡ harvested_dataset source item.iri description

read-iri : (settled : List ListedIri) (iri : List ℕ) (read : ListedIri) → read_of settled iri ≡ Some read
    → IsIn read settled × (read.iri ≡ iri)
read-iri settled iri read is =
    let there = IsIn-find (λ (r : ListedIri). bytes_eq r.iri iri) read settled is in
    (there.0, (bytes_eq-Decides read.iri iri).0 there.1)

good-parts : (source : HarvestSource) (g : Gathered) (item : Item) (d : Package) → good_of source g item ≡ Some d
    → IsGood source g item d
good-parts source g item d e = by (read_of g.settled item.iri) refl e
  where
    of_reading : (read : ListedIri) → read_of g.settled item.iri ≡ Some read → (reading : Reading)
        → read.reading ≡ reading → dataset_of source read.iri reading ≡ Some d → IsGood source g item d
    of_reading read is (Good r) good e = record {
      read = read;
      description = r;
      is = is;
      good = good;
      gives =
          (let same : d ≡ harvested_dataset source read.iri r = cc in same)
          ∙ ap (λ (iri : List ℕ). harvested_dataset source iri r) (read-iri g.settled item.iri read is).1;
    }
    of_reading read is (Bad cause) good e = absurd (cc)

    by : (o : Option ListedIri) → read_of g.settled item.iri ≡ o
        → option_and_then (λ (read : ListedIri). dataset_of source read.iri read.reading) o ≡ Some d
        → IsGood source g item d
    by None is e = absurd (cc)
    by (Some read) is e = of_reading read is read.reading refl e

good-name : (source : HarvestSource) (g : Gathered) (item : Item) (d : Package) → IsGood source g item d
    → d.name ≡ harvested_name source.name item.iri
good-name source g item d good =
    ap (λ (e : Package). e.name) good.gives ∙ harvested-name source item.iri good.description

-- ---- what is left under the old datasets and without them

module _ (source : HarvestSource) (old : List Package) (items : List ListedIri) where
  alike_or_kept : (name : List ℕ)
      → (dataset_left old source items name ≡ dataset_left [] source items name)
      ⊎ ((dataset_left [] source items name ≡ None)
      × (option_map_or (λ (d : Package). not (has_name_of old d)) (dataset_left old source items name) false ≡ false))
  alike_or_kept name = by (least_named source items name)
    where
      kept : (o : Option Package) → kept_dataset old items name ≡ o
          → option_map_or (λ (d : Package). not (has_name_of old d)) o false ≡ false
      kept None is = refl
      kept (Some d) is =
          ap not (has_name d old
          (IsIn-find (λ (e : Package). bytes_eq e.name name
          && is_listed items e.iri) d old is).0)

      of_reading : (iri : List ℕ) (reading : Reading)
          → (harvested_or (kept_dataset old items name) source iri reading
          ≡ harvested_or (kept_dataset [] items name) source iri reading)
          ⊎ ((harvested_or (kept_dataset [] items name) source iri reading ≡ None)
          × (option_map_or (λ (d : Package). not (has_name_of old d))
          (harvested_or (kept_dataset old items name) source iri reading) false ≡ false))
      of_reading iri (Good r) = inl refl
      of_reading iri (Bad cause) = inr (refl, kept (kept_dataset old items name) refl)

      by : (o : Option ListedIri)
          → (dataset_of_item (kept_dataset old items name) source o
          ≡ dataset_of_item (kept_dataset [] items name) source o)
          ⊎ ((dataset_of_item (kept_dataset [] items name) source o ≡ None)
          × (option_map_or (λ (d : Package). not (has_name_of old d))
          (dataset_of_item (kept_dataset old items name) source o) false ≡ false))
      by None = inl refl
      by (Some item) = of_reading item.iri item.reading

  -- the new names are those of the records
  fresh-count : (names : List (List ℕ))
      → length (filter (λ (d : Package). not (has_name_of old d)) (filter_map (dataset_left old source items) names))
      ≡ length (filter (λ (d : Package). not (has_name_of old d)) (filter_map (dataset_left [] source items) names))
  fresh-count [] = refl
  fresh-count (name ∷ names) =
      by (dataset_left old source items name) (dataset_left [] source items name) (alike_or_kept name)
      (fresh-count names)
    where
      p : Package → Bool
      p d = not (has_name_of old d)

      xs : List Package
      xs = filter_map (dataset_left old source items) names

      ys : List Package
      ys = filter_map (dataset_left [] source items) names

      same_head : (o : Option Package) → length (filter p xs) ≡ length (filter p ys)
          → length (filter p (cons_option o xs)) ≡ length (filter p (cons_option o ys))
      same_head None e = e
      same_head (Some d) e = more (p d) d d (filter p xs) (filter p ys) e

      kept_head : (o : Option Package) → option_map_or p o false ≡ false
          → length (filter p (cons_option o xs)) ≡ length (filter p xs)
      kept_head None e = refl
      kept_head (Some d) e = ap (λ (b : Bool). length (cond b (d ∷ filter p xs) (filter p xs))) e

      by : (o q : Option Package) → (o ≡ q) ⊎ ((q ≡ None) × (option_map_or p o false ≡ false))
          → length (filter p xs) ≡ length (filter p ys)
          → length (filter p (cons_option o xs)) ≡ length (filter p (cons_option q ys))
      by o q (inl same) e =
          ap (λ (r : Option Package). length (filter p (cons_option r xs))) same ∙ same_head q e
      by o q (inr parts) e =
          kept_head o parts.1
          ∙ e
          ∙ ap (λ (r : Option Package). length (filter p (cons_option r ys))) (sym parts.0)

-- ---- the report

module _ (sure : Type 0) (source : HarvestSource) (old : List Package) (g : Gathered) (listing : Listing)
    (ds : List Package) (so : IsSettling sure source old g listing ds)
    (done : list_all is_done listing.objects ≡ true) (up_old : IsAscending name_cmp old) (up : IsAscending name_cmp ds)
    (named : (d : Package) → IsIn d ds → d.name ≡ harvested_name source.name d.iri) where
  -- a settled IRI has no lesser namesake
  read-free : (iri : List ℕ) (read : ListedIri) → read_of g.settled iri ≡ Some read
      → is_shadowed source.name g.items iri ≡ false
  read-free iri read is =
      let there = read-iri g.settled iri read is in
      ap (is_shadowed source.name g.items) (sym there.1) ∙ (so.settled read there.0).1

  -- ---- bad IRIs

  bad-pair : (o : ListedObject) (item : Item) → IsIn o listing.objects → IsIn item (first_items g.items)
      → o.iri ≡ item.iri → bad_object o ≡ bad_item (read_item g.settled item)
  bad-pair o item m n same =
      by (outcome_if_done o.progress) (is_shadowed source.name g.items item.iri) refl (read_of g.settled item.iri) refl
      (list_all-IsIn is_done listing.objects done o m)
      (so.objects o m ∙ ap (expected source.name g) same)
    where
      of_reading : (reading : Reading)
          → option_map (λ (cause : Cause). (o.iri, cause)) (cause_in reading) ≡ bad_reading item.iri reading
      of_reading (Good r) = refl
      of_reading (Bad cause) = ap (λ (iri : List ℕ). Some (iri, cause)) same

      by : (p : Option Outcome) (b : Bool) → is_shadowed source.name g.items item.iri ≡ b → (r : Option ListedIri)
          → read_of g.settled item.iri ≡ r → is_some p ≡ true
          → option_map cause_of p
          ≡ cond b (Some (Some SameName)) (option_map (λ (read : ListedIri). cause_in read.reading) r)
          → option_map (λ (cause : Cause). (o.iri, cause)) (option_and_then cause_of p)
          ≡ bad_reading item.iri (reading_or_namesake r)
      by None b shadowed r is some e = absurd (true≢false (sym some))
      by (Some out) true shadowed None is some e =
          let cause : cause_of out ≡ Some SameName = cc in
          ap (option_map (λ (cause : Cause). (o.iri, cause))) cause
          ∙ ap (λ (iri : List ℕ). Some (iri, SameName)) same
      by (Some out) true shadowed (Some read) is some e =
          absurd (true≢false (sym shadowed ∙ read-free item.iri read is))
      by (Some out) false shadowed None is some e = absurd (cc)
      by (Some out) false shadowed (Some read) is some e =
          let cause : cause_of out ≡ cause_in read.reading = cc in
          ap (option_map (λ (cause : Cause). (o.iri, cause))) cause ∙ of_reading read.reading

  pub bad-same : filter_map bad_object listing.objects ≡ bad_of (reading_of source g)
  bad-same =
      filter_map-pairs bad_object (λ (item : Item). bad_item (read_item g.settled item)) listing.objects
      (first_items g.items) so.iris bad-pair
      ∙ sym (filter_map-map bad_item (read_item g.settled) (first_items g.items))
      ∙ ap (filter_map bad_item) (sym (items_by_iri-read g.settled g.items))

  -- ---- outcomes

  outcome-pair : (t : Outcome → Bool) (p : Package → Bool) → t (outcome.Bad SameName) ≡ false
      → ((read : ListedIri) → t (outcome_on source old read)
      ≡ option_map_or p (dataset_of source read.iri read.reading) false)
      → sure → (o : ListedObject) (item : Item) → IsIn o listing.objects → IsIn item (first_items g.items)
      → o.iri ≡ item.iri → CountsAlike t p (good_of source g item) o
  outcome-pair t p namesake reads s o item m n same =
      by (outcome_if_done o.progress) refl (is_shadowed source.name g.items item.iri) refl
      (read_of g.settled item.iri) refl (list_all-IsIn is_done listing.objects done o m)
      (so.outcomes s o m ∙ ap (expected_outcome source old g) same)
    where
      by : (q : Option Outcome) → outcome_if_done o.progress ≡ q → (b : Bool)
          → is_shadowed source.name g.items item.iri ≡ b → (r : Option ListedIri) → read_of g.settled item.iri ≡ r
          → is_some q ≡ true
          → q ≡ cond b (Some (outcome.Bad SameName)) (option_map (outcome_on source old) r)
          → CountsAlike t p
          (option_and_then (λ (read : ListedIri). dataset_of source read.iri read.reading) r) o
      by None came b shadowed r is some e = absurd (true≢false (sym some))
      by (Some out) came true shadowed None is some e =
          let result : out ≡ outcome.Bad SameName = cc in (out, came, ap t result ∙ namesake)
      by (Some out) came true shadowed (Some read) is some e =
          absurd (true≢false (sym shadowed ∙ read-free item.iri read is))
      by (Some out) came false shadowed None is some e = absurd (cc)
      by (Some out) came false shadowed (Some read) is some e =
          let result : out ≡ outcome_on source old read = cc in (out, came, ap t result ∙ reads read)

  -- ---- the datasets of the records, by name

  good-free : (item : Item) (d : Package) → IsGood source g item d → is_shadowed source.name g.items item.iri ≡ false
  good-free item d good = read-free item.iri good.read good.is

  item-in : (item : Item) → IsIn item (first_items g.items)
      → IsIn item.iri (map (λ (i : Item). i.iri) (first_items g.items))
  item-in item m = IsIn-map (λ (i : Item). i.iri) item (first_items g.items) m

  goods-apart : (xs : List Item) → ((i : Item) → IsIn i xs → IsIn i (first_items g.items)) → IsAscending item_cmp xs
      → AreApart name_cmp (filter_map (good_of source g) xs)
  goods-apart [] all up_xs = tt
  goods-apart (x ∷ xs) all up_xs =
      by (good_of source g x) refl (goods-apart xs (λ i m. all i (inr m)) up_xs.1)
    where
      unlike : (d : Package) → good_of source g x ≡ Some d → (y : Package)
          → IsIn y (filter_map (good_of source g) xs) → is_eq (name_cmp y d) ≡ false
      unlike d is y m = fails (is_eq (name_cmp y d)) (λ like.
          let w = filter_map-IsIn (good_of source g) y xs m in
          let here = good-parts source g x d is in
          let there = good-parts source g w.0 y w.2 in
          let names : y.name ≡ d.name =
          (bytes_eq-Decides y.name d.name).0 (sym (is_eq-slice_cmp y.name d.name) ∙ like) in
          let iris : x.iri ≡ w.0.iri = unshadowed-same source.name g.items x.iri w.0.iri
          (item-in x (all x (inl refl))) (item-in w.0 (all w.0 (inr w.1))) (good-free x d here)
          (good-free w.0 y there) (sym (good-name source g x d here) ∙ sym names ∙ good-name source g w.0 y there) in
          let below : item_cmp x w.0 ≡ Less = below_in item_cmp x w.0 xs up_xs.0 w.1 in
          let level : item_cmp x w.0 ≡ Equal = same_bytes x.iri w.0.iri iris in
          absurd (cc))

      by : (o : Option Package) → good_of source g x ≡ o → AreApart name_cmp (filter_map (good_of source g) xs)
          → AreApart name_cmp (cons_option o (filter_map (good_of source g) xs))
      by None is rest = rest
      by (Some d) is rest =
          (none-list_any (λ (y : Package). is_eq (name_cmp y d)) (filter_map (good_of source g) xs) (unlike d is), rest)

  -- the dataset of an item's record is left under its name
  good-left : (item : Item) (d : Package) → IsIn item (first_items g.items) → IsGood source g item d
      → dataset_left [] source (map (read_item g.settled) g.items) d.name ≡ Some d
  good-left item d m good =
      ap (dataset_of_item (kept_dataset [] (map (read_item g.settled) g.items) d.name) source)
      (least-read source g d.name ∙ ap (option_map (read_item g.settled)) first)
      ∙ ap (λ (o : Option ListedIri). harvested_or (kept_dataset [] (map (read_item g.settled) g.items) d.name) source
      item.iri (reading_or_namesake o)) good.is
      ∙ ap (harvested_or (kept_dataset [] (map (read_item g.settled) g.items) d.name) source item.iri) good.good
      ∙ ap Some (sym good.gives)
    where
      test : Item → Bool
      test i = bytes_eq (harvested_name source.name i.iri) d.name

      by : (o : Option Item) → find test (first_items g.items) ≡ o → find test (first_items g.items) ≡ Some item
      by None is =
          absurd (true≢false (sym ((bytes_eq-Decides (harvested_name source.name item.iri) d.name).1
          (sym (good-name source g item d good))) ∙ find-none test item (first_items g.items) is m))
      by (Some x) is =
          let there = IsIn-find test x (first_items g.items) is in
          let iris : x.iri ≡ item.iri = unshadowed-same source.name g.items x.iri item.iri (item-in x there.0)
          (item-in item m) (first-free source g.items d.name x is) (good-free item d good)
          ((bytes_eq-Decides (harvested_name source.name x.iri) d.name).0 there.1 ∙ good-name source g item d good) in
          is
          ∙ ap Some (same_member item_cmp item_cmp_total x item (first_items g.items)
          (IsAscending-first_items g.items) there.0 m (same_bytes x.iri item.iri iris))

      first : find test (first_items g.items) ≡ Some item
      first = by (find test (first_items g.items)) refl

  left-good : (name : List ℕ) (d : Package)
      → dataset_left [] source (map (read_item g.settled) g.items) name ≡ Some d
      → IsIn d (filter_map (good_of source g) (first_items g.items))
  left-good name d left =
      by (find (λ (i : Item). bytes_eq (harvested_name source.name i.iri) name) (first_items g.items)) refl
      (sym (ap (dataset_of_item (kept_dataset [] (map (read_item g.settled) g.items) name) source)
      (least-read source g name)) ∙ left)
    where
      of_reading : (item : Item) → IsIn item (first_items g.items) → (read : ListedIri)
          → read_of g.settled item.iri ≡ Some read → (reading : Reading) → read.reading ≡ reading
          → harvested_or (kept_dataset [] (map (read_item g.settled) g.items) name) source item.iri reading ≡ Some d
          → IsIn d (filter_map (good_of source g) (first_items g.items))
      of_reading item m read is (Good r) good e =
          filtered-IsIn (good_of source g) item d (first_items g.items) m
          (ap (option_and_then (λ (x : ListedIri). dataset_of source x.iri x.reading)) is
          ∙ ap (dataset_of source read.iri) good
          ∙ ap (λ (iri : List ℕ). Some (harvested_dataset source iri r)) (read-iri g.settled item.iri read is).1
          ∙ e)
      of_reading item m read is (Bad cause) good e = absurd (cc)

      at_read : (item : Item) → IsIn item (first_items g.items) → (o : Option ListedIri)
          → read_of g.settled item.iri ≡ o
          → harvested_or (kept_dataset [] (map (read_item g.settled) g.items) name) source item.iri
          (reading_or_namesake o) ≡ Some d
          → IsIn d (filter_map (good_of source g) (first_items g.items))
      at_read item m None is e = absurd (cc)
      at_read item m (Some read) is e = of_reading item m read is read.reading refl e

      by : (o : Option Item)
          → find (λ (i : Item). bytes_eq (harvested_name source.name i.iri) name) (first_items g.items) ≡ o
          → dataset_of_item (kept_dataset [] (map (read_item g.settled) g.items) name) source
          (option_map (read_item g.settled) o) ≡ Some d
          → IsIn d (filter_map (good_of source g) (first_items g.items))
      by None is e = absurd (cc)
      by (Some item) is e =
          at_read item
          (IsIn-find (λ (i : Item). bytes_eq (harvested_name source.name i.iri) name) item (first_items g.items) is).0
          (read_of g.settled item.iri) refl e

  goods-sorted : ascending name_cmp (filter_map (good_of source g) (first_items g.items))
      ≡ datasets_afresh (reading_of source g)
  goods-sorted =
      unique name_cmp name_cmp_total
      (ascending name_cmp (filter_map (good_of source g) (first_items g.items)))
      (datasets_afresh (reading_of source g))
      (IsAscending-ascending name_cmp name_cmp_total (filter_map (good_of source g) (first_items g.items))
      (goods-apart (first_items g.items) (λ i m. m) (IsAscending-first_items g.items)))
      (after-ascending [] source (map (read_item g.settled) g.items) g.unnamed) into from
    where
      into : (d : Package) → IsIn d (ascending name_cmp (filter_map (good_of source g) (first_items g.items)))
          → IsIn d (datasets_afresh (reading_of source g))
      into d m =
          let w = filter_map-IsIn (good_of source g) d (first_items g.items)
          (ascending-IsIn name_cmp d (filter_map (good_of source g) (first_items g.items)) m) in
          (IsIn-find (λ (e : Package). bytes_eq e.name d.name) d (datasets_afresh (reading_of source g))
          (find-after [] source (map (read_item g.settled) g.items) g.unnamed d.name
          ∙ good-left w.0 d w.1 (good-parts source g w.0 d w.2))).0

      from : (d : Package) → IsIn d (datasets_afresh (reading_of source g))
          → IsIn d (ascending name_cmp (filter_map (good_of source g) (first_items g.items)))
      from d m =
          let w = filter_map-IsIn (dataset_left [] source (map (read_item g.settled) g.items)) d
          (listed_names source (map (read_item g.settled) g.items)) m in
          IsIn-ascending name_cmp d (filter_map (good_of source g) (first_items g.items)) (left-good w.0 d w.2)

  -- objects of an outcome are as many as the datasets of records that are alike
  outcome-count : (t : Outcome → Bool) (p : Package → Bool) → t (outcome.Bad SameName) ≡ false
      → ((read : ListedIri) → t (outcome_on source old read)
      ≡ option_map_or p (dataset_of source read.iri read.reading) false)
      → sure → count_by t (outcomes listing) ≡ count_by p (datasets_afresh (reading_of source g))
  outcome-count t p namesake reads s =
      sym (length-filter t (outcomes listing))
      ∙ count-pairs t p (good_of source g) listing.objects (first_items g.items) so.iris
      (outcome-pair t p namesake reads s)
      ∙ sym (count-ascending name_cmp p (filter_map (good_of source g) (first_items g.items)))
      ∙ ap (λ (l : List Package). length (filter p l)) goods-sorted
      ∙ length-filter p (datasets_afresh (reading_of source g))

  pub added-same : sure → count_by is_added (outcomes listing) ≡ (counts_of old (reading_of source g)).added
  added-same s =
      outcome-count is_added (λ (d : Package). not (has_name_of old d)) refl
      (λ read. added-on source old up_old read read.reading) s
      ∙ sym (length-filter (λ (d : Package). not (has_name_of old d)) (datasets_afresh (reading_of source g)))
      ∙ sym (fresh-count source old (map (read_item g.settled) g.items)
      (listed_names source (map (read_item g.settled) g.items)))
      ∙ length-filter (λ (d : Package). not (has_name_of old d)) (datasets_after old (reading_of source g))

  pub updated-same : sure → count_by is_updated (outcomes listing) ≡ (counts_of old (reading_of source g)).updated
  updated-same s =
      outcome-count is_updated (λ (d : Package). has_name_of old d && not (has_equal_of old d)) refl
      (λ read. updated-on source old up_old read read.reading) s

  pub unchanged-same : sure → count_by is_unchanged (outcomes listing) ≡ (counts_of old (reading_of source g)).unchanged
  unchanged-same s =
      outcome-count is_unchanged (has_equal_of old) refl (λ read. unchanged-on source old up_old read read.reading) s

  -- ---- datasets that are deleted

  -- the old names are still there
  old-there : (d : Package) → IsIn d old → has_name_of ds d ≡ true
  old-there d m =
      sym (is_some-find_any (λ (e : Package). bytes_eq e.name d.name) ds)
      ∙ ap is_some (so.looks d.name)
      ∙ by (dataset_named old d.name)
      (is_some-find_any (λ (e : Package). bytes_eq e.name d.name) old ∙ has_name d old m)
      (read_named source g.settled d.name)
    where
      of_reading : (o : Option Package) → is_some o ≡ true → (iri : List ℕ) (reading : Reading)
          → is_some (harvested_or o source iri reading) ≡ true
      of_reading o e iri (Good r) = refl
      of_reading o e iri (Bad cause) = e

      by : (o : Option Package) → is_some o ≡ true → (r : Option ListedIri) → is_some (settled_or o source r) ≡ true
      by o e None = e
      by o e (Some read) = of_reading o e read.iri read.reading

  -- a dataset of a new name is listed
  new-listed : (d : Package) → IsIn d ds → has_name_of old d ≡ false → lists listing d.iri ≡ true
  new-listed d m new =
      by (dataset_named old d.name)
      (is_some-find_any (λ (e : Package). bytes_eq e.name d.name) old ∙ new)
      (read_named source g.settled d.name) refl
      (sym (so.looks d.name)
      ∙ find-alone (λ (e : Package). bytes_eq e.name d.name) d ds m ((bytes_eq-Decides d.name d.name).1 refl)
      (λ e n like. alone-name d.name ds up e d n m like ((bytes_eq-Decides d.name d.name).1 refl)))
    where
      of_reading : (read : ListedIri) → IsIn read g.settled → (reading : Reading)
          → harvested_or None source read.iri reading ≡ Some d → lists listing d.iri ≡ true
      of_reading read n (Good r) e =
          let same : harvested_dataset source read.iri r ≡ d = cc in
          let w = map-IsIn (λ (o : ListedObject). o.iri) read.iri listing.objects
          (subst (IsIn read.iri) (sym so.iris) (so.settled read n).0) in
          ap (λ (f : Package). lists listing f.iri) (sym same)
          ∙ ap (lists listing) (harvested-iri source read.iri r)
          ∙ list_any-IsIn (λ (o : ListedObject). bytes_eq o.iri read.iri) w.0 listing.objects w.1
          ((bytes_eq-Decides w.0.iri read.iri).1 (sym w.2))
      of_reading read n (Bad cause) e = absurd (cc)

      by : (o : Option Package) → is_some o ≡ false → (r : Option ListedIri)
          → read_named source g.settled d.name ≡ r → settled_or o source r ≡ Some d → lists listing d.iri ≡ true
      by (Some x) none r is e = absurd (true≢false none)
      by None none None is e = absurd (cc)
      by None none (Some read) is e =
          of_reading read
          (IsIn-find (λ (x : ListedIri). bytes_eq (harvested_name source.name x.iri) d.name) read g.settled is).0
          read.reading e

  pub deleted-same : length (filter (λ (d : Package). not (lists listing d.iri)) ds)
      ≡ (counts_of old (reading_of source g)).deleted
  deleted-same =
      let p : Package → Bool = λ d. not (has_name_of old d) in
      let after = datasets_after old (reading_of source g) in
      let settled = settled-after sure source old g listing ds so done up_old up named in
      let parts = count-rest (λ (d : Package). lists listing d.iri) ds in
      let unlisted = length-filter (λ (d : Package). not (lists listing d.iri)) ds in
      let kept : count_by (λ (d : Package). lists listing d.iri) ds ≡ length after =
      sym (length-filter (λ (d : Package). lists listing d.iri) ds) ∙ ap length settled in
      let others = count-rest (has_name_of old) ds in
      let olds : count_by (has_name_of old) ds ≡ length old =
      same-count ds old up up_old
      ∙ sym (length-filter (has_name_of ds) old)
      ∙ ap length (filter-all (has_name_of ds) old old-there) in
      let news : count_by p ds ≡ count_by p after =
      sym (length-filter p ds)
      ∙ ap length (sym (filter-filter p (λ (d : Package). lists listing d.iri) ds
      ∙ filter-all (λ (d : Package). lists listing d.iri) (filter p ds)
      (λ d m. let there = IsIn-filter p d ds m in
      new-listed d there.0 (was_false (has_name_of old d) there.1))))
      ∙ ap (λ (l : List Package). length (filter p l)) settled
      ∙ length-filter p after in
      let change = balance old (reading_of source g) up_old in
      omega arith
    where
      was_false : (b : Bool) → not b ≡ true → b ≡ false
      was_false true e = absurd (true≢false (sym e))
      was_false false e = refl
