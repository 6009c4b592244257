-- How far the objects of a listing are, and the datasets of the source meanwhile.
use Rattle.std.proofs.Common.{◌≡◌, ℕ, Bool, true, false, not, ◌&&◌, cond, List, [], ◌∷◌, map, Option, Some, None, refl}
use Rattle.std.proofs.Common.{sym, ap, ◌∙◌, subst, inl, inr, ◌⊎◌, true≢false}
use Rattle.std.specs.Prelude.{is_some, option_and_then, option_map}
use Rattle.std.specs.Option.{option_map_or}
use Rattle.std.specs.declared.cmp.Ordering.{Ordering}
use Rattle.std.specs.declared.cmp.Ordering.TheVariants.{Less, Equal, Greater}
use Rattle.std.specs.Cmp.{IsTotalOrder}
use Rattle.std.specs.Cmp.Lexicographic.{nat_list_cmp_total, slice_cmp}
use Rattle.std.specs.List.{find, list_any}
use Rattle.std.specs.Ordering.{is_eq, is_lt, nat_cmp, ordering_reverse}
use Rattle.std.specs.Str.{bytes_eq}
use Rattle.std.proofs.lemmas.Cmp.{on_total}
use Rattle.std.proofs.lemmas.Map.Text.{is_eq-slice_cmp}
use Rattle.std.proofs.lemmas.Slice.Eq.{bytes_eq-Decides}
use Rattle.portal_base.specs.Ordered.{IsAscending, IsBelowAll, found, upserted}
use Rattle.portal_base.proofs.Unique.{IsIn, unique}
use Rattle.portal_base.proofs.Upserted.{IsAscending-upserted, IsIn-upserted, upserted-IsIn, upserted-IsIn_other}
use Rattle.packages.specs.declared.package.Package.{Package}
use Rattle.packages.proofs.FindLemmas.{IsIn-find, IsIn-map, fails, find-none, map-IsIn}
use Rattle.packages.proofs.FindLemmas.{none-find}
use Rattle.harvest_records.specs.Names.{harvested_name}
use Rattle.harvest_records.specs.declared.record.HarvestRecord.{HarvestRecord}
use Rattle.harvest_sources.specs.Listings.{cause_of, first_items, first_progress, first_waiting, is_done, listing_of}
use Rattle.harvest_sources.specs.Listings.{object_at, object_cmp, object_of, outcome_if_done, released, released_object}
use Rattle.harvest_sources.specs.Listings.{waiting_item, waits_at, with_all_released, with_progress}
use Rattle.harvest_sources.specs.Steps.{is_unsettled, outcome_of}
use Rattle.harvest_sources.specs.declared.cause.Cause.{Cause}
use Rattle.harvest_sources.specs.declared.cause.Cause.TheVariants.{SameName}
use Rattle.harvest_sources.specs.declared.listing.ListedObject.{ListedObject}
use Rattle.harvest_sources.specs.declared.listing.Listing.{Listing}
use Rattle.harvest_sources.specs.declared.listing.Outcome.{Outcome}
use Rattle.harvest_sources.specs.declared.listing.Outcome.TheVariants as outcome
use Rattle.harvest_sources.specs.declared.listing.Progress.{Progress}
use Rattle.harvest_sources.specs.declared.listing.Progress.TheVariants.{Waiting, Claimed, Done}
use Rattle.harvest_sources.specs.declared.reading.Reading.{Reading}
use Rattle.harvest_sources.specs.declared.reading.Reading.TheVariants.{Good, Bad}
use Rattle.harvest_sources.specs.declared.source.HarvestSource.{HarvestSource}
use Rattle.harvest_sources.specs.declared.step.Found.{Found}
use Rattle.harvest_sources.specs.declared.step.Item.{Item}
use Rattle.harvest_results.specs.Effects.{effect_of_put, effect_over}
use Rattle.harvest_results.specs.Histories.{Gathered}
use Rattle.harvest_results.specs.Harvested.{harvested_dataset}
use Rattle.harvest_results.specs.Readings.{ListedIri, item_name}
use Rattle.harvest_results.specs.Results.{harvested_or}
use Rattle.harvest_results.proofs.CountLemmas.{list_any-IsIn}

-- ---- definitions

-- the listed IRIs, ascending
abbrev pub iris_of : List Item → List (List ℕ)
iris_of items = map (λ (item : Item). item.iri) (first_items items)

-- the IRI's dataset has the name that one of a lesser listed IRI has
abbrev pub is_shadowed : List ℕ → List Item → List ℕ → Bool
is_shadowed name items iri =
    list_any (λ (other : Item). is_lt (slice_cmp nat_cmp other.iri iri)
    && bytes_eq (harvested_name name other.iri) (harvested_name name iri)) (first_items items)

-- what an object came to, if it is done: nothing, or a cause
abbrev pub seen : Progress → Option (Option Cause)
seen p = option_map cause_of (outcome_if_done p)

abbrev pub cause_in : Reading → Option Cause
cause_in (Good r) = None
cause_in (Bad cause) = Some cause

abbrev pub read_of : List ListedIri → List ℕ → Option ListedIri
read_of settled iri = find (λ (read : ListedIri). bytes_eq read.iri iri) settled

-- what the object of the IRI came to, by what is gathered
abbrev pub expected : List ℕ → Gathered → List ℕ → Option (Option Cause)
expected name g iri =
    cond (is_shadowed name g.items iri) (Some (Some SameName))
    (option_map (λ (read : ListedIri). cause_in read.reading) (read_of g.settled iri))

abbrev pub dataset_of : HarvestSource → List ℕ → Reading → Option Package
dataset_of source iri (Good r) = Some (harvested_dataset source iri r)
dataset_of source iri (Bad cause) = None

-- what a reading comes to where these were the datasets so far
abbrev pub outcome_on : HarvestSource → List Package → ListedIri → Outcome
outcome_on source old read =
    outcome_of read.reading (effect_of_put old (dataset_of source read.iri read.reading))

-- the object's outcome, by what is gathered, and by the datasets at the beginning
abbrev pub expected_outcome : HarvestSource → List Package → Gathered → List ℕ → Option Outcome
expected_outcome source old g iri =
    cond (is_shadowed source.name g.items iri) (Some (outcome.Bad SameName))
    (option_map (outcome_on source old) (read_of g.settled iri))

abbrev pub dataset_named : List Package → List ℕ → Option Package
dataset_named ds name = find (λ (d : Package). bytes_eq d.name name) ds

abbrev pub settled_or : Option Package → HarvestSource → Option ListedIri → Option Package
settled_or kept source None = kept
settled_or kept source (Some read) = harvested_or kept source read.iri read.reading

abbrev pub read_named : HarvestSource → List ListedIri → List ℕ → Option ListedIri
read_named source settled name = find (λ (read : ListedIri). bytes_eq (item_name source read) name) settled

-- The listing and the datasets of the source, by what is gathered, and by the datasets at the beginning. The outcomes
-- are sure only if no other dataset has a name of the source.
pub record IsSettling (sure : Type 0) (source : HarvestSource) (old : List Package) (g : Gathered) (listing : Listing)
    (ds : List Package) : Type 0 where
  pub unnamed : listing.unnamed ≡ g.unnamed
  pub iris : map (λ (o : ListedObject). o.iri) listing.objects ≡ iris_of g.items
  pub objects : (o : ListedObject) → IsIn o listing.objects → seen o.progress ≡ expected source.name g o.iri
  pub outcomes : sure → (o : ListedObject) → IsIn o listing.objects
      → outcome_if_done o.progress ≡ expected_outcome source old g o.iri
  pub settled : (read : ListedIri) → IsIn read g.settled
      → IsIn read.iri (iris_of g.items) × (is_shadowed source.name g.items read.iri ≡ false)
  pub looks : (name : List ℕ) → dataset_named ds name
      ≡ settled_or (dataset_named old name) source (read_named source g.settled name)

pub harvested-name : (source : HarvestSource) (iri : List ℕ) (r : HarvestRecord)
    → (harvested_dataset source iri r).name ≡ harvested_name source.name iri
unfolding harvested_dataset
harvested-name source iri r = refl

pub harvested-iri : (source : HarvestSource) (iri : List ℕ) (r : HarvestRecord)
    → (harvested_dataset source iri r).iri ≡ iri
unfolding harvested_dataset
harvested-iri source iri r = refl

-- ---- a new listing

listed_iris : (name : List ℕ) (all xs : List Item)
    → map (λ (o : ListedObject). o.iri) (map (object_of name all) xs) ≡ map (λ (item : Item). item.iri) xs
listed_iris name all [] = refl
listed_iris name all (x ∷ xs) = ap (λ l. x.iri ∷ l) (listed_iris name all xs)

pub new-listing : (sure : Type 0) (source : HarvestSource) (old : List Package) (items : List Item) (unnamed : ℕ)
    → IsSettling sure source old (record { items = items; unnamed = unnamed; settled = [] })
    (listing_of source.name items unnamed) old
new-listing sure source old items unnamed = record {
  unnamed = refl;
  iris = listed_iris source.name (first_items items) (first_items items);
  objects = λ o m. each o (map-IsIn (object_of source.name (first_items items)) o (first_items items) m);
  outcomes = λ s o m. each_outcome o (map-IsIn (object_of source.name (first_items items)) o (first_items items) m);
  settled = λ read m. absurd m;
  looks = λ name. refl;
}
  where
    first : (b : Bool) (f : Found) → seen (first_progress b f) ≡ cond b (Some (Some SameName)) None
    first true f = refl
    first false f = refl

    first_outcome : (b : Bool) (f : Found)
        → outcome_if_done (first_progress b f) ≡ cond b (Some (outcome.Bad SameName)) None
    first_outcome true f = refl
    first_outcome false f = refl

    each_outcome : (o : ListedObject)
        → (item : Item) × IsIn item (first_items items) × (o ≡ object_of source.name (first_items items) item)
        → outcome_if_done o.progress
        ≡ expected_outcome source old (record { items = items; unnamed = unnamed; settled = [] }) o.iri
    each_outcome o w =
        ap (λ (p : ListedObject). outcome_if_done p.progress) w.2
        ∙ first_outcome (is_shadowed source.name items w.0.iri) w.0.found
        ∙ ap (λ (p : ListedObject). cond (is_shadowed source.name items p.iri) (Some (outcome.Bad SameName)) None)
        (sym w.2)

    each : (o : ListedObject)
        → (item : Item) × IsIn item (first_items items) × (o ≡ object_of source.name (first_items items) item)
        → seen o.progress
        ≡ expected source.name (record { items = items; unnamed = unnamed; settled = [] }) o.iri
    each o w =
        ap (λ (p : ListedObject). seen p.progress) w.2
        ∙ first (is_shadowed source.name items w.0.iri) w.0.found
        ∙ ap (λ (p : ListedObject). cond (is_shadowed source.name items p.iri) (Some (Some SameName)) None) (sym w.2)

-- ---- claimed objects wait again

released_iris : (objects : List ListedObject)
    → map (λ (o : ListedObject). o.iri) (map released_object objects) ≡ map (λ (o : ListedObject). o.iri) objects
released_iris [] = refl
released_iris (o ∷ os) = ap (λ l. o.iri ∷ l) (released_iris os)

done-released : (p : Progress) → outcome_if_done (released p) ≡ outcome_if_done p
done-released (Waiting f) = refl
done-released (Claimed f) = refl
done-released (Done o) = refl

pub released-listing : (sure : Type 0) (source : HarvestSource) (old : List Package) (g : Gathered) (listing : Listing)
    (ds : List Package) → IsSettling sure source old g listing ds → IsSettling sure source old g (with_all_released listing) ds
released-listing sure source old g listing ds so = record {
  unnamed = so.unnamed;
  iris = released_iris listing.objects ∙ so.iris;
  objects = λ o m. each o (map-IsIn released_object o listing.objects m);
  outcomes = λ s o m. each_outcome s o (map-IsIn released_object o listing.objects m);
  settled = so.settled;
  looks = so.looks;
}
  where
    each : (o : ListedObject) → (was : ListedObject) × IsIn was listing.objects × (o ≡ released_object was)
        → seen o.progress ≡ expected source.name g o.iri
    each o w =
        ap (λ (p : ListedObject). seen p.progress) w.2
        ∙ ap (option_map cause_of) (done-released w.0.progress)
        ∙ so.objects w.0 w.1
        ∙ ap (λ (p : ListedObject). expected source.name g p.iri) (sym w.2)

    each_outcome : sure → (o : ListedObject)
        → (was : ListedObject) × IsIn was listing.objects × (o ≡ released_object was)
        → outcome_if_done o.progress ≡ expected_outcome source old g o.iri
    each_outcome s o w =
        ap (λ (p : ListedObject). outcome_if_done p.progress) w.2
        ∙ done-released w.0.progress
        ∙ so.outcomes s w.0 w.1
        ∙ ap (λ (p : ListedObject). expected_outcome source old g p.iri) (sym w.2)

-- ---- an object's progress

IsAscending-iris : (os : List ListedObject) → IsAscending object_cmp os
    → IsAscending (slice_cmp nat_cmp) (map (λ (o : ListedObject). o.iri) os)
IsAscending-iris [] up = tt
IsAscending-iris (o ∷ os) up = (below o os up.0, IsAscending-iris os up.1)
  where
    below : (o : ListedObject) (os : List ListedObject) → IsBelowAll object_cmp o os
        → IsBelowAll (slice_cmp nat_cmp) o.iri (map (λ (o : ListedObject). o.iri) os)
    below o [] b = tt
    below o (p ∷ ps) b = (b.0, below o ps b.1)

object_cmp_total : IsTotalOrder object_cmp
object_cmp_total = on_total (λ (o : ListedObject). o.iri) nat_list_cmp_total

-- The IRIs of the listing stay.
progress-iris : (listing : Listing) (o : ListedObject) (progress : Progress) → IsAscending object_cmp listing.objects
    → IsIn o listing.objects
    → map (λ (p : ListedObject). p.iri) (with_progress o.iri progress listing).objects
    ≡ map (λ (p : ListedObject). p.iri) listing.objects
progress-iris listing o progress up m =
    unique (slice_cmp nat_cmp) nat_list_cmp_total
    (map (λ (p : ListedObject). p.iri) (upserted object_cmp next listing.objects))
    (map (λ (p : ListedObject). p.iri) listing.objects)
    (IsAscending-iris (upserted object_cmp next listing.objects)
    (IsAscending-upserted object_cmp object_cmp_total next listing.objects up))
    (IsAscending-iris listing.objects up)
    (λ iri n. into iri (map-IsIn (λ (p : ListedObject). p.iri) iri (upserted object_cmp next listing.objects) n))
    (λ iri n. from iri (map-IsIn (λ (p : ListedObject). p.iri) iri listing.objects n))
  where
    next : ListedObject
    next = record { iri = o.iri; progress = progress }

    into : (iri : List ℕ)
        → (p : ListedObject) × IsIn p (upserted object_cmp next listing.objects) × (iri ≡ p.iri)
        → IsIn iri (map (λ (p : ListedObject). p.iri) listing.objects)
    into iri w = by (IsIn-upserted object_cmp next w.0 listing.objects w.1)
      where
        by : (w.0 ≡ next) ⊎ (IsIn w.0 listing.objects × (is_eq (object_cmp w.0 next) ≡ false))
            → IsIn iri (map (λ (p : ListedObject). p.iri) listing.objects)
        by (inl same) =
            subst (λ (i : List ℕ). IsIn i (map (λ (p : ListedObject). p.iri) listing.objects))
            (sym (w.2 ∙ ap (λ (p : ListedObject). p.iri) same))
            (IsIn-map (λ (p : ListedObject). p.iri) o listing.objects m)
        by (inr n) =
            subst (λ (i : List ℕ). IsIn i (map (λ (p : ListedObject). p.iri) listing.objects)) (sym w.2)
            (IsIn-map (λ (p : ListedObject). p.iri) w.0 listing.objects n.0)

    from : (iri : List ℕ) → (p : ListedObject) × IsIn p listing.objects × (iri ≡ p.iri)
        → IsIn iri (map (λ (p : ListedObject). p.iri) (upserted object_cmp next listing.objects))
    from iri w = by (is_eq (object_cmp w.0 next)) refl
      where
        by : (b : Bool) → is_eq (object_cmp w.0 next) ≡ b
            → IsIn iri (map (λ (p : ListedObject). p.iri) (upserted object_cmp next listing.objects))
        by true like =
            let same : w.0.iri ≡ o.iri =
            (bytes_eq-Decides w.0.iri o.iri).0 (sym (is_eq-slice_cmp w.0.iri o.iri) ∙ like) in
            subst (λ (i : List ℕ). IsIn i (map (λ (p : ListedObject). p.iri)
            (upserted object_cmp next listing.objects))) (sym (w.2 ∙ same))
            (IsIn-map (λ (p : ListedObject). p.iri) next (upserted object_cmp next listing.objects)
            (upserted-IsIn object_cmp next listing.objects))
        by false unlike =
            subst (λ (i : List ℕ). IsIn i (map (λ (p : ListedObject). p.iri)
            (upserted object_cmp next listing.objects))) (sym w.2)
            (IsIn-map (λ (p : ListedObject). p.iri) w.0 (upserted object_cmp next listing.objects)
            (upserted-IsIn_other object_cmp next w.0 listing.objects w.1 unlike))

-- An object that isn't done may be claimed.
pub claimed-listing : (sure : Type 0) (source : HarvestSource) (old : List Package) (g : Gathered) (listing : Listing)
    (ds : List Package) (o : ListedObject) (progress : Progress) → IsAscending object_cmp listing.objects → IsIn o listing.objects
    → outcome_if_done progress ≡ outcome_if_done o.progress → IsSettling sure source old g listing ds
    → IsSettling sure source old g (with_progress o.iri progress listing) ds
claimed-listing sure source old g listing ds o progress up m same so = record {
  unnamed = so.unnamed;
  iris = progress-iris listing o progress up m ∙ so.iris;
  objects = λ p n. each p (IsIn-upserted object_cmp next p listing.objects n);
  outcomes = λ s p n. each_outcome s p (IsIn-upserted object_cmp next p listing.objects n);
  settled = so.settled;
  looks = so.looks;
}
  where
    next : ListedObject
    next = record { iri = o.iri; progress = progress }

    each : (p : ListedObject) → (p ≡ next) ⊎ (IsIn p listing.objects × (is_eq (object_cmp p next) ≡ false))
        → seen p.progress ≡ expected source.name g p.iri
    each p (inl is) =
        ap (λ (q : ListedObject). seen q.progress) is
        ∙ ap (option_map cause_of) same
        ∙ so.objects o m
        ∙ ap (λ (q : ListedObject). expected source.name g q.iri) (sym is)
    each p (inr n) = so.objects p n.0

    each_outcome : sure → (p : ListedObject)
        → (p ≡ next) ⊎ (IsIn p listing.objects × (is_eq (object_cmp p next) ≡ false))
        → outcome_if_done p.progress ≡ expected_outcome source old g p.iri
    each_outcome s p (inl is) =
        ap (λ (q : ListedObject). outcome_if_done q.progress) is
        ∙ same
        ∙ so.outcomes s o m
        ∙ ap (λ (q : ListedObject). expected_outcome source old g q.iri) (sym is)
    each_outcome s p (inr n) = so.outcomes s p n.0

-- ---- an object is settled

-- IRIs of the same name that have no lesser namesake are the same.
pub unshadowed-same : (name : List ℕ) (items : List Item) (i j : List ℕ) → IsIn i (iris_of items)
    → IsIn j (iris_of items)
    → is_shadowed name items i ≡ false → is_shadowed name items j ≡ false
    → harvested_name name i ≡ harvested_name name j → i ≡ j
unshadowed-same name items i j m n free_i free_j same = by (slice_cmp nat_cmp i j) refl
  where
    both : (a b : Bool) → a ≡ true → b ≡ true → (a && b) ≡ true
    both true b p q = q
    both false b p q = p

    shadows : (x y : List ℕ) → IsIn x (iris_of items) → slice_cmp nat_cmp x y ≡ Less
        → harvested_name name x ≡ harvested_name name y → is_shadowed name items y ≡ true
    shadows x y k less alike =
        let w = map-IsIn (λ (item : Item). item.iri) x (first_items items) k in
        list_any-IsIn (λ (other : Item). is_lt (slice_cmp nat_cmp other.iri y)
        && bytes_eq (harvested_name name other.iri) (harvested_name name y)) w.0 (first_items items) w.1
        (both (is_lt (slice_cmp nat_cmp w.0.iri y))
        (bytes_eq (harvested_name name w.0.iri) (harvested_name name y))
        (ap (λ (z : List ℕ). is_lt (slice_cmp nat_cmp z y)) (sym w.2) ∙ ap is_lt less)
        ((bytes_eq-Decides (harvested_name name w.0.iri) (harvested_name name y)).1
        (ap (harvested_name name) (sym w.2) ∙ alike)))

    by : (r : Ordering) → slice_cmp nat_cmp i j ≡ r → i ≡ j
    by Less is = absurd (true≢false (sym (shadows i j m is same) ∙ free_j))
    by Equal is = (bytes_eq-Decides i j).0 (sym (is_eq-slice_cmp i j) ∙ ap is_eq is)
    by Greater is =
        let back : slice_cmp nat_cmp j i ≡ ordering_reverse (slice_cmp nat_cmp i j) =
        nat_list_cmp_total.antisymm j i in
        absurd (true≢false (sym (shadows j i n (back ∙ ap ordering_reverse is) (sym same)) ∙ free_i))

expected-none : (name : List ℕ) (g : Gathered) (iri : List ℕ) → expected name g iri ≡ None
    → (is_shadowed name g.items iri ≡ false) × (read_of g.settled iri ≡ None)
expected-none name g iri none = by (is_shadowed name g.items iri) (read_of g.settled iri) none
  where
    by : (b : Bool) (o : Option ListedIri)
        → cond b (Some (Some SameName)) (option_map (λ (read : ListedIri). cause_in read.reading) o) ≡ None
        → (b ≡ false) × (o ≡ None)
    by true o e = absurd (cc)
    by false None e = (refl, refl)
    by false (Some read) e = absurd (cc)

unlike_back : (x y : List ℕ) → bytes_eq x y ≡ false → bytes_eq y x ≡ false
unlike_back x y differ = fails (bytes_eq y x) (λ like.
    true≢false (sym ((bytes_eq-Decides x y).1 (sym ((bytes_eq-Decides y x).0 like))) ∙ differ))

-- An object that isn't done is settled with an outcome, and its dataset is put, if there is one.
pub settled-listing : (sure : Type 0) (source : HarvestSource) (old : List Package) (g : Gathered) (listing : Listing)
    (ds next_ds : List Package) (o : ListedObject) (reading : Reading) (result : Outcome)
    → IsAscending object_cmp listing.objects → IsIn o listing.objects → outcome_if_done o.progress ≡ None
    → cause_of result ≡ cause_in reading
    → (sure → result ≡ outcome_on source ds (record { iri = o.iri; reading = reading }))
    → ((name : List ℕ) → dataset_named next_ds name
    ≡ cond (bytes_eq (harvested_name source.name o.iri) name)
    (harvested_or (dataset_named ds name) source o.iri reading) (dataset_named ds name))
    → IsSettling sure source old g listing ds
    → IsSettling sure source old (record g { settled = record { iri = o.iri; reading = reading } ∷ g.settled })
    (with_progress o.iri (Done result) listing) next_ds
settled-listing sure source old g listing ds next_ds o reading result up m undone came sure_of puts so = record {
  unnamed = so.unnamed;
  iris = progress-iris listing o (Done result) up m ∙ so.iris;
  objects = λ p n. each p (IsIn-upserted object_cmp next p listing.objects n);
  outcomes = λ s p n. each_outcome s p (IsIn-upserted object_cmp next p listing.objects n);
  settled = each_read;
  looks = λ name. puts name ∙ looked name (bytes_eq (harvested_name source.name o.iri) name) refl;
}
  where
    next : ListedObject
    next = record { iri = o.iri; progress = Done result }

    read : ListedIri
    read = record { iri = o.iri; reading = reading }

    after : Gathered
    after = record g { settled = read ∷ g.settled }

    free : (is_shadowed source.name g.items o.iri ≡ false) × (read_of g.settled o.iri ≡ None)
    free = expected-none source.name g o.iri (sym (so.objects o m) ∙ ap (option_map cause_of) undone)

    each : (p : ListedObject) → (p ≡ next) ⊎ (IsIn p listing.objects × (is_eq (object_cmp p next) ≡ false))
        → seen p.progress ≡ expected source.name after p.iri
    each p (inl is) =
        ap (λ (q : ListedObject). seen q.progress) is
        ∙ ap Some came
        ∙ sym (ap (λ (b : Bool). cond b (Some (Some SameName))
        (option_map (λ (r : ListedIri). cause_in r.reading) (read_of (read ∷ g.settled) o.iri))) free.0
        ∙ ap (λ (b : Bool). option_map (λ (r : ListedIri). cause_in r.reading)
        (cond b (Some read) (read_of g.settled o.iri))) ((bytes_eq-Decides o.iri o.iri).1 refl))
        ∙ ap (λ (q : ListedObject). expected source.name after q.iri) (sym is)
    each p (inr n) =
        so.objects p n.0
        ∙ sym (ap (λ (b : Bool). cond (is_shadowed source.name g.items p.iri) (Some (Some SameName))
        (option_map (λ (r : ListedIri). cause_in r.reading) (cond b (Some read) (read_of g.settled p.iri))))
        (unlike_back p.iri o.iri (sym (is_eq-slice_cmp p.iri o.iri) ∙ n.1)))

    here : IsIn o.iri (iris_of g.items)
    here = subst (IsIn o.iri) so.iris (IsIn-map (λ (p : ListedObject). p.iri) o listing.objects m)

    each_read : (r : ListedIri) → IsIn r (read ∷ g.settled)
        → IsIn r.iri (iris_of g.items) × (is_shadowed source.name g.items r.iri ≡ false)
    each_read r (inl is) =
        subst (λ (q : ListedIri). IsIn q.iri (iris_of g.items) × (is_shadowed source.name g.items q.iri ≡ false))
        (sym is) (here, free.0)
    each_read r (inr n) = so.settled r n

    -- nothing of the name was settled before
    none_named : (name : List ℕ) → harvested_name source.name o.iri ≡ name → read_named source g.settled name ≡ None
    none_named name is =
        none-find (λ (r : ListedIri). bytes_eq (item_name source r) name) g.settled
        (λ r n. fails (bytes_eq (item_name source r) name) (λ like.
        let facts = so.settled r n in
        let same : r.iri ≡ o.iri = unshadowed-same source.name g.items r.iri o.iri facts.0 here facts.1 free.0
        ((bytes_eq-Decides (item_name source r) name).0 like ∙ sym is) in
        true≢false (sym ((bytes_eq-Decides r.iri o.iri).1 same)
        ∙ find-none (λ (q : ListedIri). bytes_eq q.iri o.iri) r g.settled free.1 n)))

    kept : (name : List ℕ) → harvested_name source.name o.iri ≡ name
        → dataset_named ds name ≡ dataset_named old name
    kept name is = so.looks name ∙ ap (settled_or (dataset_named old name) source) (none_named name is)

    -- so the outcome is that on the datasets at the beginning
    effect-same : (r : Reading)
        → effect_of_put ds (dataset_of source o.iri r) ≡ effect_of_put old (dataset_of source o.iri r)
    effect-same (Good r) =
        ap (effect_over (harvested_dataset source o.iri r))
        (kept (harvested_dataset source o.iri r).name (sym (harvested-name source o.iri r)))
    effect-same (Bad cause) = refl

    each_outcome : sure → (p : ListedObject)
        → (p ≡ next) ⊎ (IsIn p listing.objects × (is_eq (object_cmp p next) ≡ false))
        → outcome_if_done p.progress ≡ expected_outcome source old after p.iri
    each_outcome s p (inl is) =
        ap (λ (q : ListedObject). outcome_if_done q.progress) is
        ∙ ap Some (sure_of s ∙ ap (outcome_of reading) (effect-same reading))
        ∙ sym (ap (λ (b : Bool). cond b (Some (outcome.Bad SameName))
        (option_map (outcome_on source old) (read_of (read ∷ g.settled) o.iri))) free.0
        ∙ ap (λ (b : Bool). option_map (outcome_on source old) (cond b (Some read) (read_of g.settled o.iri)))
        ((bytes_eq-Decides o.iri o.iri).1 refl))
        ∙ ap (λ (q : ListedObject). expected_outcome source old after q.iri) (sym is)
    each_outcome s p (inr n) =
        so.outcomes s p n.0
        ∙ sym (ap (λ (b : Bool). cond (is_shadowed source.name g.items p.iri) (Some (outcome.Bad SameName))
        (option_map (outcome_on source old) (cond b (Some read) (read_of g.settled p.iri))))
        (unlike_back p.iri o.iri (sym (is_eq-slice_cmp p.iri o.iri) ∙ n.1)))

    looked : (name : List ℕ) (b : Bool) → bytes_eq (harvested_name source.name o.iri) name ≡ b
        → cond b (harvested_or (dataset_named ds name) source o.iri reading) (dataset_named ds name)
        ≡ settled_or (dataset_named old name) source (cond b (Some read) (read_named source g.settled name))
    looked name true like =
        ap (λ (k : Option Package). harvested_or k source o.iri reading)
        (kept name ((bytes_eq-Decides (harvested_name source.name o.iri) name).0 like))
    looked name false unlike = so.looks name

-- The same, for an IRI that is that of the object.
pub settled-listing_at : (sure : Type 0) (source : HarvestSource) (old : List Package) (g : Gathered)
    (listing : Listing) (ds next_ds : List Package) (o : ListedObject) (iri : List ℕ) (reading : Reading) (result : Outcome) → o.iri ≡ iri
    → IsAscending object_cmp listing.objects → IsIn o listing.objects → outcome_if_done o.progress ≡ None
    → cause_of result ≡ cause_in reading
    → (sure → result ≡ outcome_on source ds (record { iri = iri; reading = reading }))
    → ((name : List ℕ) → dataset_named next_ds name
    ≡ cond (bytes_eq (harvested_name source.name iri) name)
    (harvested_or (dataset_named ds name) source iri reading) (dataset_named ds name))
    → IsSettling sure source old g listing ds
    → IsSettling sure source old (record g { settled = record { iri = iri; reading = reading } ∷ g.settled })
    (with_progress iri (Done result) listing) next_ds
settled-listing_at sure source old g listing ds next_ds o iri reading result same up m undone came sure_of puts so =
    (subst (λ (i : List ℕ). (sure → result ≡ outcome_on source ds (record { iri = i; reading = reading }))
    → ((name : List ℕ) → dataset_named next_ds name
    ≡ cond (bytes_eq (harvested_name source.name i) name)
    (harvested_or (dataset_named ds name) source i reading) (dataset_named ds name))
    → IsSettling sure source old (record g { settled = record { iri = i; reading = reading } ∷ g.settled })
    (with_progress i (Done result) listing) next_ds) same
    (λ s put. settled-listing sure source old g listing ds next_ds o reading result up m undone came s put so))
    sure_of puts

-- ---- an object that isn't done

abbrev iri_or : Option Item → List ℕ
iri_or None = []
iri_or (Some item) = item.iri

-- The first waiting object isn't done.
pub waiting-object : (listing : Listing) (item : Item) → first_waiting listing ≡ Some item
    → (o : ListedObject) × IsIn o listing.objects × (o.iri ≡ item.iri) × (outcome_if_done o.progress ≡ None)
waiting-object listing item is =
    by (find (λ (o : ListedObject). is_some (waiting_item o)) listing.objects) refl is
  where
    of_progress : (o : ListedObject) (p : Progress) → o.progress ≡ p
        → option_map (λ (f : Found). record { iri = o.iri; found = f }) (waits_at p) ≡ Some item
        → (o.iri ≡ item.iri) × (outcome_if_done o.progress ≡ None)
    of_progress o (Waiting f) is e = (ap iri_or e, ap outcome_if_done is)
    of_progress o (Claimed f) is e = absurd (cc)
    of_progress o (Done result) is e = absurd (cc)

    by : (found_object : Option ListedObject)
        → find (λ (o : ListedObject). is_some (waiting_item o)) listing.objects ≡ found_object
        → option_and_then waiting_item found_object ≡ Some item
        → (o : ListedObject) × IsIn o listing.objects × (o.iri ≡ item.iri) × (outcome_if_done o.progress ≡ None)
    by None is e = absurd (cc)
    by (Some o) is e =
        let parts = of_progress o o.progress refl e in
        (o, (IsIn-find (λ (p : ListedObject). is_some (waiting_item p)) o listing.objects is).0, parts.0, parts.1)

pub unsettled-object : (listing : Listing) (iri : List ℕ) → is_unsettled iri listing ≡ true
    → (o : ListedObject) × IsIn o listing.objects × (o.iri ≡ iri) × (outcome_if_done o.progress ≡ None)
unsettled-object listing iri is = by (found (object_at iri) listing.objects) refl is
  where
    undone : (o : Option Outcome) → not (is_some o) ≡ true → o ≡ None
    undone None e = refl
    undone (Some result) e = absurd (cc)

    by : (found_object : Option ListedObject) → found (object_at iri) listing.objects ≡ found_object
        → option_map_or (λ (o : ListedObject). not (is_done o)) found_object false ≡ true
        → (o : ListedObject) × IsIn o listing.objects × (o.iri ≡ iri) × (outcome_if_done o.progress ≡ None)
    by None is e = absurd (true≢false (sym e))
    by (Some o) is e =
        let there = IsIn-find (λ (p : ListedObject). is_eq (object_at iri p)) o listing.objects is in (
          o,
          there.0,
          (bytes_eq-Decides o.iri iri).0 (sym (is_eq-slice_cmp o.iri iri) ∙ there.1),
          undone (outcome_if_done o.progress) e,
        )
