-- What a job gathers: its objects are items of the catalogue, and once they are done it is what the documents say.
use Rattle.std.proofs.Common.{◌≡◌, ◌∙◌, ◌⊎◌, ℕ, Bool, true, false, cond, List, [], ◌∷◌, map, Option, Some, None}
use Rattle.std.proofs.Common.{Ok, refl, sym, ap, ap₂, subst, inl, inr, true≢false}
use Rattle.std.specs.Prelude.{find, is_some, option_and_then, option_map}
use Rattle.std.specs.List.{list_all}
use Rattle.std.specs.Option.{option_map_or}
use Rattle.std.specs.Ordering.{is_eq}
use Rattle.std.specs.Str.{bytes_eq}
use Rattle.std.proofs.lemmas.Map.Text.{is_eq-slice_cmp}
use Rattle.std.proofs.lemmas.Slice.Eq.{bytes_eq-Decides}
use Rattle.portal_base.proofs.Filtered.{list_all-IsIn}
use Rattle.portal_base.proofs.Unique.{IsIn}
use Rattle.portal_base.proofs.Upserted.{IsIn-upserted, upserted-IsIn, upserted-IsIn_other}
use Rattle.packages.specs.declared.package.Package.{Package}
use Rattle.packages.proofs.FindLemmas.{IsIn-find, IsIn-map, fails, map-IsIn, none-find}
use Rattle.harvest_readings.specs.Harvests.{Documents, catalogue_at, has_failed_object, object_at, reading_at}
use Rattle.harvest_readings.specs.declared.catalogue.Catalogue.{Catalogue}
use Rattle.harvest_readings.proofs.FailureLemmas.{failed-object}
use Rattle.harvest_results.specs.Histories.{Gathered, read_item, reading_of, reading_or_namesake}
use Rattle.harvest_results.specs.Readings.{ListedIri}
use Rattle.harvest_results.specs.Readings.CatalogueReading.{Listed}
use Rattle.harvest_results.proofs.SettlingLemmas.{IsSettling, cause_in, expected, iris_of, is_shadowed, read_of}
use Rattle.harvest_sources.specs.Listings.{cause_of, first_items, first_progress, first_waiting, has_lesser_namesake, is_done}
use Rattle.harvest_sources.specs.Listings.{item_cmp, listing_of, object_cmp, object_of, outcome_if_done, waiting_item, waits_at}
use Rattle.harvest_sources.specs.Listings.{with_progress}
use Rattle.harvest_sources.specs.declared.cause.Cause.TheVariants.{SameName}
use Rattle.harvest_sources.specs.declared.listing.ListedObject.{ListedObject}
use Rattle.harvest_sources.specs.declared.listing.Listing.{Listing}
use Rattle.harvest_sources.specs.declared.listing.Outcome.{Outcome}
use Rattle.harvest_sources.specs.declared.listing.Progress.{Progress}
use Rattle.harvest_sources.specs.declared.listing.Progress.TheVariants.{Waiting, Claimed, Done as is_done_as}
use Rattle.harvest_sources.specs.declared.reading.Reading.{Reading}
use Rattle.harvest_sources.specs.declared.reading.Reading.TheVariants.{Bad}
use Rattle.harvest_sources.specs.declared.source.HarvestSource.{HarvestSource}
use Rattle.harvest_sources.specs.declared.step.Found.{Found}
use Rattle.harvest_sources.specs.declared.step.Found.TheVariants.{Here, Elsewhere}
use Rattle.harvest_sources.specs.declared.step.Item.{Item}
use Rattle.harvest_pool.specs.WholeRounds.{all_read, item_read, source_read}
use Rattle.harvest_pool.proofs.ItemLemmas.{map-each, same_items}
use Rattle.harvest_pool.proofs.SourceLemmas.{item_at}

-- ---- items

-- The first items are among the items,
first-among : (item : Item) (items : List Item) → IsIn item (first_items items) → IsIn item items
first-among item [] m = m
first-among item (x ∷ xs) m = by (IsIn-upserted item_cmp x item (first_items xs) m) (first-among item xs)
  where
    by : (item ≡ x) ⊎ (IsIn item (first_items xs) × (is_eq (item_cmp item x) ≡ false))
        → (IsIn item (first_items xs) → IsIn item xs) → IsIn item (x ∷ xs)
    by (inl same) go = inl same
    by (inr n) go = inr (go n.0)

-- and have all IRIs.
iri-among : (item : Item) (items : List Item) → IsIn item items → IsIn item.iri (iris_of items)
iri-among item [] m = absurd m
iri-among item (x ∷ xs) (inl same) =
    subst (λ (iri : List ℕ). IsIn iri (iris_of (x ∷ xs))) (ap (λ (i : Item). i.iri) (sym same))
    (IsIn-map (λ (i : Item). i.iri) x (first_items (x ∷ xs)) (upserted-IsIn item_cmp x (first_items xs)))
iri-among item (x ∷ xs) (inr m) =
    let w = map-IsIn (λ (i : Item). i.iri) item.iri (first_items xs) (iri-among item xs m) in
    subst (λ (iri : List ℕ). IsIn iri (iris_of (x ∷ xs))) (sym w.2) (by w.0 w.1 (bytes_eq w.0.iri x.iri) refl)
  where
    by : (first : Item) → IsIn first (first_items xs) → (b : Bool) → bytes_eq first.iri x.iri ≡ b
        → IsIn first.iri (iris_of (x ∷ xs))
    by first n true like =
        subst (λ (iri : List ℕ). IsIn iri (iris_of (x ∷ xs))) (sym ((bytes_eq-Decides first.iri x.iri).0 like))
        (IsIn-map (λ (i : Item). i.iri) x (first_items (x ∷ xs)) (upserted-IsIn item_cmp x (first_items xs)))
    by first n false unlike =
        IsIn-map (λ (i : Item). i.iri) first (first_items (x ∷ xs))
        (upserted-IsIn_other item_cmp x first (first_items xs) n (is_eq-slice_cmp first.iri x.iri ∙ unlike))

-- ---- objects that aren't done

-- where an object is described that isn't done
abbrev pub described_at : Progress → Option Found
described_at (Waiting found) = Some found
described_at (Claimed found) = Some found
described_at (is_done_as o) = None

-- The objects that aren't done are items of the catalogue.
abbrev pub AreItems : List Item → Listing → Type 0
AreItems items l =
    (o : ListedObject) → IsIn o l.objects → (found : Found) → described_at o.progress ≡ Some found
    → IsIn (item_at o.iri found) items

pub items-listed : (source : List ℕ) (items : List Item) (unnamed : ℕ) → AreItems items (listing_of source items unnamed)
items-listed source items unnamed o m found is =
    let w = map-IsIn (object_of source (first_items items)) o (first_items items) m in
    subst (λ (iri : List ℕ). IsIn (item_at iri found) items) (ap (λ (x : ListedObject). x.iri) (sym w.2))
    (by w.0 (first-among w.0 items w.1) (has_lesser_namesake source (first_items items) w.0)
    (ap (λ (x : ListedObject). described_at x.progress) (sym w.2) ∙ is))
  where
    by : (item : Item) → IsIn item items → (b : Bool) → described_at (first_progress b item.found) ≡ Some found
        → IsIn (item_at item.iri found) items
    by item n true e = absurd (cc)
    by item n false e =
        let same : item.found ≡ found = cc in subst (λ (f : Found). IsIn (item_at item.iri f) items) same n

-- The first waiting object is one.
pub waiting-listed : (items : List Item) (l : Listing) (item : Item) → AreItems items l → first_waiting l ≡ Some item
    → IsIn item items
waiting-listed items l item all is = by (find (λ (o : ListedObject). is_some (waiting_item o)) l.objects) refl is
  where
    of_progress : (o : ListedObject) → IsIn o l.objects → (p : Progress) → o.progress ≡ p
        → option_map (λ (f : Found). item_at o.iri f) (waits_at p) ≡ Some item → IsIn item items
    of_progress o m (Waiting f) same e =
        let here : item_at o.iri f ≡ item = cc in
        subst (λ (i : Item). IsIn i items) here (all o m f (ap described_at same))
    of_progress o m (Claimed f) same e = absurd (cc)
    of_progress o m (is_done_as came) same e = absurd (cc)

    by : (found : Option ListedObject) → find (λ (o : ListedObject). is_some (waiting_item o)) l.objects ≡ found
        → option_and_then waiting_item found ≡ Some item → IsIn item items
    by None there e = absurd (cc)
    by (Some o) there e =
        of_progress o (IsIn-find (λ (x : ListedObject). is_some (waiting_item x)) o l.objects there).0 o.progress refl e

pub items-claimed : (items : List Item) (l : Listing) (item : Item) → AreItems items l → IsIn item items
    → AreItems items (with_progress item.iri (Claimed item.found) l)
items-claimed items l item all m o n found is =
    by (IsIn-upserted object_cmp (record { iri = item.iri; progress = Claimed item.found }) o l.objects n)
  where
    by : (o ≡ record { iri = item.iri; progress = Claimed item.found })
        ⊎ (IsIn o l.objects × (is_eq (object_cmp o (record { iri = item.iri; progress = Claimed item.found })) ≡ false))
        → IsIn (item_at o.iri found) items
    by (inl same) =
        let here : Some item.found ≡ Some found = ap (λ (x : ListedObject). described_at x.progress) (sym same) ∙ is in
        let alike : item.found ≡ found = cc in
        subst (λ (iri : List ℕ). IsIn (item_at iri found) items) (ap (λ (x : ListedObject). x.iri) (sym same))
        (subst (λ (f : Found). IsIn (item_at item.iri f) items) alike m)
    by (inr old) = all o old.0 found is

pub items-settled : (items : List Item) (l : Listing) (iri : List ℕ) (came : Outcome) → AreItems items l
    → AreItems items (with_progress iri (is_done_as came) l)
items-settled items l iri came all o n found is =
    by (IsIn-upserted object_cmp (record { iri = iri; progress = is_done_as came }) o l.objects n)
  where
    by : (o ≡ record { iri = iri; progress = is_done_as came })
        ⊎ (IsIn o l.objects × (is_eq (object_cmp o (record { iri = iri; progress = is_done_as came })) ≡ false))
        → IsIn (item_at o.iri found) items
    by (inl same) =
        let none : None ≡ Some found = ap (λ (x : ListedObject). described_at x.progress) (sym same) ∙ is in absurd (cc)
    by (inr old) = all o old.0 found is

-- ---- what was read

-- What was settled is what the documents say of an item, unless a fetch failed.
abbrev pub IsReadOf : Documents → List Item → ListedIri → Type 0
IsReadOf documents items read =
    (item : Item) × IsIn item items × (item.iri ≡ read.iri)
    × ((failed : Bool) × (read.reading ≡ reading_at documents (λ iri. failed) item.iri item.found))

abbrev pub AreRead : Documents → List Item → List ListedIri → Type 0
AreRead documents items settled = (read : ListedIri) → IsIn read settled → IsReadOf documents items read

-- the fetch of the IRI's document failed
abbrev pub failed_at : List ListedIri → List ℕ → Bool
failed_at settled iri =
    option_map_or (λ (read : ListedIri). has_failed_object read.reading) (read_of settled iri) false

module _ (documents : Documents) (failed : Bool) (source : HarvestSource) (catalogue : Catalogue)
    (lists : catalogue_at documents failed source.url ≡ Ok catalogue) (old : List Package) (g : Gathered)
    (listing : Listing) (ds : List Package) (so : IsSettling ⊥ source old g listing ds)
    (items : g.items ≡ catalogue.items) (unnamed : g.unnamed ≡ catalogue.unnamed)
    (reads : AreRead documents catalogue.items g.settled) (done : list_all is_done listing.objects ≡ true) where
  shadowed-unread : (iri : List ℕ) → is_shadowed source.name g.items iri ≡ true → read_of g.settled iri ≡ None
  shadowed-unread iri shadowed =
      none-find (λ (read : ListedIri). bytes_eq read.iri iri) g.settled
      (λ read m. fails (bytes_eq read.iri iri) (λ like.
      true≢false (sym shadowed ∙ ap (is_shadowed source.name g.items) (sym ((bytes_eq-Decides read.iri iri).0 like))
      ∙ (so.settled read m).1)))

  free-read : (item : Item) → IsIn item catalogue.items → is_shadowed source.name g.items item.iri ≡ false
      → (read : ListedIri) × (read_of g.settled item.iri ≡ Some read)
  free-read item m free =
      let among : IsIn item.iri (iris_of g.items) =
      iri-among item g.items (subst (λ (l : List Item). IsIn item l) (sym items) m) in
      let w = map-IsIn (λ (o : ListedObject). o.iri) item.iri listing.objects
      (subst (λ (l : List (List ℕ)). IsIn item.iri l) (sym so.iris) among) in
      by (read_of g.settled item.iri) (outcome_if_done w.0.progress) refl
      (list_all-IsIn is_done listing.objects done w.0 w.1)
      (so.objects w.0 w.1
      ∙ ap (expected source.name g) (sym w.2)
      ∙ ap (λ (b : Bool). cond b (Some (Some SameName))
      (option_map (λ (r : ListedIri). cause_in r.reading) (read_of g.settled item.iri))) free)
    where
      by : (o : Option ListedIri) (p : Option Outcome) → read_of g.settled item.iri ≡ o → is_some p ≡ true
          → option_map cause_of p ≡ option_map (λ (r : ListedIri). cause_in r.reading) o
          → (read : ListedIri) × (read_of g.settled item.iri ≡ Some read)
      by (Some read) p is some e = (read, is)
      by None None is some e = absurd (true≢false (sym some))
      by None (Some outcome) is some e = absurd (cc)

  -- by where the item is described
  as-described : (iri : List ℕ) (found : Found) (read : ListedIri) (one : Bool) → read_of g.settled iri ≡ Some read
      → read.reading ≡ reading_at documents (λ i. one) iri found
      → read.reading ≡ reading_at documents (failed_at g.settled) iri found
  as-described iri (Here reading) read one is e = e
  as-described iri Elsewhere read one is e =
      let flag : failed_at g.settled iri ≡ one =
      ap (λ (o : Option ListedIri). option_map_or (λ (r : ListedIri). has_failed_object r.reading) o false) is
      ∙ ap has_failed_object e ∙ failed-object documents one iri in
      e ∙ ap (λ (b : Bool). object_at documents b iri) (sym flag)

  as-read : (item : Item) → IsIn item catalogue.items → (read : ListedIri) → read_of g.settled item.iri ≡ Some read
      → read.reading ≡ reading_at documents (failed_at g.settled) item.iri item.found
  as-read item m read is =
      let there = IsIn-find (λ (r : ListedIri). bytes_eq r.iri item.iri) read g.settled is in
      let w = reads read there.0 in
      let same : w.0 ≡ item = same_items documents failed source.url catalogue lists w.0 item w.1 m
      (w.2 ∙ (bytes_eq-Decides read.iri item.iri).0 there.1) in
      as-described item.iri item.found read w.3.0 is
      (w.3.1 ∙ ap (λ (i : Item). reading_at documents (λ iri. w.3.0) i.iri i.found) same)

  as-item : (item : Item) → IsIn item catalogue.items
      → read_item g.settled item
      ≡ item_read documents (failed_at g.settled) source catalogue.items item
  as-item item m =
      ap (λ (r : Reading). record { iri = item.iri; reading = r })
      (by (is_shadowed source.name g.items item.iri) refl
      ∙ ap (λ (l : List Item). cond (is_shadowed source.name l item.iri) (Bad SameName)
      (reading_at documents (failed_at g.settled) item.iri item.found)) items)
    where
      by : (b : Bool) → is_shadowed source.name g.items item.iri ≡ b
          → reading_or_namesake (read_of g.settled item.iri)
          ≡ cond (is_shadowed source.name g.items item.iri) (Bad SameName)
          (reading_at documents (failed_at g.settled) item.iri item.found)
      by true is =
          ap reading_or_namesake (shadowed-unread item.iri is)
          ∙ sym (ap (λ (b : Bool). cond b (Bad SameName)
          (reading_at documents (failed_at g.settled) item.iri item.found)) is)
      by false is =
          let w = free-read item m is in
          ap reading_or_namesake w.1
          ∙ as-read item m w.0 w.1
          ∙ sym (ap (λ (b : Bool). cond b (Bad SameName)
          (reading_at documents (failed_at g.settled) item.iri item.found)) is)

  -- What was gathered is what the documents say.
  pub gathered-read : reading_of source g ≡ source_read documents failed (failed_at g.settled) source
  gathered-read =
      ap₂ (λ (l : List Item) (n : ℕ). Listed source (map (read_item g.settled) l) n) items unnamed
      ∙ ap (λ (l : List ListedIri). Listed source l catalogue.unnamed)
      (map-each (read_item g.settled) (item_read documents (failed_at g.settled) source catalogue.items) catalogue.items
      as-item)
      ∙ ap (all_read documents (failed_at g.settled) source) (sym lists)
