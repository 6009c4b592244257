-- Reports tell which fetches failed.
use Rattle.std.proofs.Common.{◌≡◌, ◌∙◌, ℕ, Bool, true, false, ◌&&◌, cond, List, [], ◌∷◌, map, Some}
use Rattle.std.proofs.Common.{Result, Ok, Err, refl, sym, ap, subst, inl, inr, true≢false}
use Rattle.std.specs.List.{filter_map, list_any}
use Rattle.std.specs.Str.{bytes_eq}
use Rattle.std.proofs.lemmas.Bool.{and_parts}
use Rattle.std.proofs.lemmas.Map.Text.{is_eq-slice_cmp}
use Rattle.std.proofs.lemmas.Slice.Eq.{bytes_eq-Decides}
use Rattle.portal_base.proofs.Unique.{IsIn}
use Rattle.portal_base.proofs.Upserted.{upserted-IsIn, upserted-IsIn_other}
use Rattle.packages.specs.declared.package.Package.{Package}
use Rattle.packages.proofs.FindLemmas.{IsIn-map, fails, map-IsIn, none-list_any}
use Rattle.harvest_readings.specs.Harvests.{Documents, catalogue_at, has_failed_catalogue, has_failed_object}
use Rattle.harvest_readings.specs.Harvests.{is_read_fault, object_at, reading_at}
use Rattle.harvest_readings.specs.declared.catalogue.Catalogue.{Catalogue}
use Rattle.harvest_readings.proofs.FailureLemmas.{failed-catalogue, failed-object}
use Rattle.harvest_results.specs.Counts.{bad_item, bad_reading}
use Rattle.harvest_results.specs.Readings.{CatalogueReading, ListedIri, iri_cmp, items_by_iri}
use Rattle.harvest_results.specs.Readings.CatalogueReading.{Broken, Listed}
use Rattle.harvest_results.proofs.CountLemmas.{filtered-IsIn, list_any-IsIn}
use Rattle.harvest_results.proofs.ItemLemmas.{items_by_iri-IsIn}
use Rattle.harvest_results.proofs.ResultLemmas.{filter_map-IsIn}
use Rattle.harvest_sources.specs.Listings.{first_items, has_lesser_namesake}
use Rattle.harvest_sources.specs.declared.cause.Cause.{Cause}
use Rattle.harvest_sources.specs.declared.cause.Cause.TheVariants.{SameName}
use Rattle.harvest_sources.specs.declared.job.SourceReport.{SourceReport}
use Rattle.harvest_sources.specs.declared.reading.Reading.{Reading}
use Rattle.harvest_sources.specs.declared.reading.Reading.TheVariants.{Good, Bad}
use Rattle.harvest_sources.specs.declared.source.HarvestSource.{HarvestSource}
use Rattle.harvest_sources.specs.declared.step.Found.{Found}
use Rattle.harvest_sources.specs.declared.step.Found.TheVariants.{Here, Elsewhere}
use Rattle.harvest_sources.specs.declared.step.Item.{Item}
use Rattle.harvest_pool.specs.WholeRounds.{all_read, broke_by_failure, failures_told, item_read, report_on, source_read}
use Rattle.harvest_pool.proofs.ItemLemmas.{map-each, same_items}

-- ---- a report that is the only one of its source

pub report_name : (name : List ℕ) (old : List Package) (reading : CatalogueReading)
    → (report_on name old reading).source ≡ name
report_name name old (Broken cause) = refl
report_name name old (Listed source items unnamed) = refl

any-alone : (p : SourceReport → Bool) (name : List ℕ) (report : SourceReport) (reports : List SourceReport)
    → IsIn report reports → report.source ≡ name
    → ((r : SourceReport) → IsIn r reports → r.source ≡ name → r ≡ report)
    → list_any (λ r. bytes_eq r.source name && p r) reports ≡ p report
any-alone p name report reports m named alone = by (p report) refl
  where
    by : (b : Bool) → p report ≡ b → list_any (λ r. bytes_eq r.source name && p r) reports ≡ b
    by true passes =
        list_any-IsIn (λ (r : SourceReport). bytes_eq r.source name && p r) report reports m
        (ap (λ b. b && p report) ((bytes_eq-Decides report.source name).1 named) ∙ passes)
    by false missing =
        none-list_any (λ (r : SourceReport). bytes_eq r.source name && p r) reports
        (λ r n. fails (bytes_eq r.source name && p r) (λ yes.
        let parts = and_parts (bytes_eq r.source name) (p r) yes in
        let same : r ≡ report = alone r n ((bytes_eq-Decides r.source name).0 parts.0) in
        true≢false (sym parts.1 ∙ ap p same ∙ missing)))

-- ---- the catalogue

broke-read : (documents : Documents) (has_failed : List ℕ → Bool) (source : HarvestSource) (name : List ℕ)
    (old : List Package) (read : Result Catalogue Cause)
    → broke_by_failure (report_on name old (all_read documents has_failed source read)).state
    ≡ has_failed_catalogue read
broke-read documents has_failed source name old (Ok catalogue) = refl
broke-read documents has_failed source name old (Err cause) = refl

-- The report on a job tells whether the fetch of its catalogue failed.
pub broke-failed : (documents : Documents) (failed : Bool) (has_failed : List ℕ → Bool) (source : HarvestSource)
    (name : List ℕ) (old : List Package)
    → broke_by_failure (report_on name old (source_read documents failed has_failed source)).state ≡ failed
broke-failed documents failed has_failed source name old =
    broke-read documents has_failed source name old (catalogue_at documents failed source.url)
    ∙ failed-catalogue documents failed source.url

-- ---- the documents of its datasets

-- Each IRI has its item.
by_iri : (z : ListedIri) (items : List ListedIri) → IsIn z items
    → (w : ListedIri) × IsIn w (items_by_iri items) × (w.iri ≡ z.iri)
by_iri z [] m = absurd m
by_iri z (i ∷ is) (inl same) =
    (i, upserted-IsIn iri_cmp i (items_by_iri is), ap (λ (j : ListedIri). j.iri) (sym same))
by_iri z (i ∷ is) (inr m) = let w = by_iri z is m in by w (bytes_eq w.0.iri i.iri) refl
  where
    by : (w : (v : ListedIri) × IsIn v (items_by_iri is) × (v.iri ≡ z.iri)) (b : Bool) → bytes_eq w.0.iri i.iri ≡ b
        → (v : ListedIri) × IsIn v (items_by_iri (i ∷ is)) × (v.iri ≡ z.iri)
    by w true like =
        (i, upserted-IsIn iri_cmp i (items_by_iri is), sym ((bytes_eq-Decides w.0.iri i.iri).0 like) ∙ w.2)
    by w false unlike =
        (w.0, upserted-IsIn_other iri_cmp i w.0 (items_by_iri is) w.1 (is_eq-slice_cmp w.0.iri i.iri ∙ unlike), w.2)

-- the IRI is bad since the fetch of its document failed
abbrev is_failed_at : List ℕ → List ℕ × Cause → Bool
is_failed_at iri bad = bytes_eq bad.0 iri && is_read_fault bad.1

bad-parts : (x : ListedIri) (bad : List ℕ × Cause) → bad_item x ≡ Some bad
    → (bad.0 ≡ x.iri) × (is_read_fault bad.1 ≡ has_failed_object x.reading)
bad-parts x bad is = by x.reading is
  where
    by : (reading : Reading) → bad_reading x.iri reading ≡ Some bad
        → (bad.0 ≡ x.iri) × (is_read_fault bad.1 ≡ has_failed_object reading)
    by (Good r) e = absurd (cc)
    by (Bad cause) e =
        let same : (x.iri, cause) ≡ bad = cc in
        (sym (ap (λ (b : List ℕ × Cause). b.0) same), sym (ap (λ (b : List ℕ × Cause). is_read_fault b.1) same))

failed-bad : (x : ListedIri) → has_failed_object x.reading ≡ true
    → (cause : Cause) × (bad_item x ≡ Some (x.iri, cause)) × (is_read_fault cause ≡ true)
failed-bad x failed = by x.reading failed
  where
    by : (reading : Reading) → has_failed_object reading ≡ true
        → (cause : Cause) × (bad_reading x.iri reading ≡ Some (x.iri, cause)) × (is_read_fault cause ≡ true)
    by (Good r) e = absurd (true≢false (sym e))
    by (Bad cause) e = (cause, refl, e)

-- Where items with one IRI are the same, the bad IRIs tell of each whether its reading failed.
bad-tells : (items : List ListedIri) (x : ListedIri) → IsIn x items
    → ((y : ListedIri) → IsIn y items → y.iri ≡ x.iri → y ≡ x)
    → list_any (is_failed_at x.iri) (filter_map bad_item (items_by_iri items)) ≡ has_failed_object x.reading
bad-tells items x m alone = by (has_failed_object x.reading) refl
  where
    by : (b : Bool) → has_failed_object x.reading ≡ b
        → list_any (is_failed_at x.iri) (filter_map bad_item (items_by_iri items)) ≡ b
    by true failed =
        let w = by_iri x items m in
        let same : w.0 ≡ x = alone w.0 (items_by_iri-IsIn w.0 items w.1) w.2 in
        let bad = failed-bad x failed in
        list_any-IsIn (is_failed_at x.iri) (x.iri, bad.0) (filter_map bad_item (items_by_iri items))
        (filtered-IsIn bad_item x (x.iri, bad.0) (items_by_iri items)
        (subst (λ (y : ListedIri). IsIn y (items_by_iri items)) same w.1) bad.1)
        (ap (λ b. b && is_read_fault bad.0) ((bytes_eq-Decides x.iri x.iri).1 refl) ∙ bad.2)
    by false not_failed =
        none-list_any (is_failed_at x.iri) (filter_map bad_item (items_by_iri items))
        (λ bad n. fails (is_failed_at x.iri bad) (λ yes.
        let parts = and_parts (bytes_eq bad.0 x.iri) (is_read_fault bad.1) yes in
        let w = filter_map-IsIn bad_item bad (items_by_iri items) n in
        let its = bad-parts w.0 bad w.2 in
        let same : w.0 ≡ x = alone w.0 (items_by_iri-IsIn w.0 items w.1)
        (sym its.0 ∙ (bytes_eq-Decides bad.0 x.iri).0 parts.0) in
        true≢false (sym parts.1 ∙ its.1 ∙ ap (λ (y : ListedIri). has_failed_object y.reading) same ∙ not_failed)))

-- ---- what is read with the flags that are told

module _ (documents : Documents) (has_failed told : List ℕ → Bool) (source : HarvestSource) (items : List Item)
    (same : (i j : Item) → IsIn i items → IsIn j items → i.iri ≡ j.iri → i ≡ j)
    (tells : (iri : List ℕ) → told iri
    ≡ list_any (is_failed_at iri) (filter_map bad_item (items_by_iri (map (item_read documents has_failed source items) items))))
  where
    abbrev read_of : Item → ListedIri
    read_of item = item_read documents has_failed source items item

    told-read : (item : Item) → IsIn item items → told item.iri ≡ has_failed_object (read_of item).reading
    told-read item m =
        tells item.iri
        ∙ bad-tells (map read_of items) (read_of item) (IsIn-map read_of item items m)
        (λ y n alike. let w = map-IsIn read_of y items n in
        w.2 ∙ ap read_of (same w.0 item w.1 m (sym (ap (λ (l : ListedIri). l.iri) w.2) ∙ alike)))

    abbrev read_if : Item → (List ℕ → Bool) → Bool → ListedIri
    read_if item flags b = record {
      iri = item.iri;
      reading = cond b (Bad SameName) (reading_at documents flags item.iri item.found);
    }

    item-same : (item : Item) → IsIn item items → item_read documents told source items item ≡ read_of item
    item-same item m = by (has_lesser_namesake source.name (first_items items) item) refl
      where
        at : (found : Found) → item.found ≡ found
            → told item.iri ≡ has_failed_object (reading_at documents has_failed item.iri item.found)
            → reading_at documents told item.iri found ≡ reading_at documents has_failed item.iri found
        at (Here reading) is e = refl
        at Elsewhere is e =
            ap (λ (b : Bool). object_at documents b item.iri)
            (e ∙ ap (λ (f : Found). has_failed_object (reading_at documents has_failed item.iri f)) is
            ∙ failed-object documents (has_failed item.iri) item.iri)

        by : (b : Bool) → has_lesser_namesake source.name (first_items items) item ≡ b
            → item_read documents told source items item ≡ read_of item
        by true is = ap (read_if item told) is ∙ sym (ap (read_if item has_failed) is)
        by false is =
            ap (read_if item told) is
            ∙ ap (λ (r : Reading). record { iri = item.iri; reading = r })
            (at item.found refl (told-read item m
            ∙ ap (λ (l : ListedIri). has_failed_object l.reading) (ap (read_if item has_failed) is)))
            ∙ sym (ap (read_if item has_failed) is)

-- The bad IRIs of a report tell the flags with which the same is read again.
pub read-told : (documents : Documents) (failed : Bool) (has_failed told : List ℕ → Bool) (source : HarvestSource)
    (name : List ℕ) (old : List Package)
    → ((iri : List ℕ) → told iri
    ≡ list_any (λ bad. bytes_eq bad.0 iri && is_read_fault bad.1)
    (report_on name old (source_read documents failed has_failed source)).bad)
    → source_read documents failed told source ≡ source_read documents failed has_failed source
read-told documents failed has_failed told source name old tells =
    by (catalogue_at documents failed source.url) refl tells
  where
    by : (read : Result Catalogue Cause) → catalogue_at documents failed source.url ≡ read
        → ((iri : List ℕ) → told iri
        ≡ list_any (λ bad. bytes_eq bad.0 iri && is_read_fault bad.1)
        (report_on name old (all_read documents has_failed source read)).bad)
        → all_read documents told source read ≡ all_read documents has_failed source read
    by (Ok catalogue) is so =
        ap (λ (l : List ListedIri). Listed source l catalogue.unnamed)
        (map-each (item_read documents told source catalogue.items)
        (item_read documents has_failed source catalogue.items) catalogue.items
        (item-same documents has_failed told source catalogue.items
        (same_items documents failed source.url catalogue is) so))
    by (Err cause) is so = refl

-- The flags that reports tell, where one of them is the only one on the source, give the reading that it is on.
pub told-reading : (documents : Documents) (failed : Bool) (has_failed : List ℕ → Bool) (source : HarvestSource)
    (old : List Package) (reports : List SourceReport)
    → IsIn (report_on source.name old (source_read documents failed has_failed source)) reports
    → ((r : SourceReport) → IsIn r reports → r.source ≡ source.name
    → r ≡ report_on source.name old (source_read documents failed has_failed source))
    → source_read documents ((failures_told reports).catalogue source.name)
    ((failures_told reports).object source.name) source
    ≡ source_read documents failed has_failed source
told-reading documents failed has_failed source old reports m alone =
    let report : SourceReport = report_on source.name old (source_read documents failed has_failed source) in
    let named : report.source ≡ source.name =
    report_name source.name old (source_read documents failed has_failed source) in
    ap (λ (b : Bool). source_read documents b ((failures_told reports).object source.name) source)
    (any-alone (λ r. broke_by_failure r.state) source.name report reports m named alone
    ∙ broke-failed documents failed has_failed source source.name old)
    ∙ read-told documents failed has_failed ((failures_told reports).object source.name) source source.name old
    (λ iri. any-alone (λ r. list_any (λ bad. bytes_eq bad.0 iri && is_read_fault bad.1) r.bad) source.name report
    reports m named alone)
