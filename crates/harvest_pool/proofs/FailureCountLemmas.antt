-- How many listed objects came to a failed fetch.
use Rattle.std.proofs.Common.{◌≡◌, ◌∙◌, ◌+◌, ℕ, Bool, true, false, cond, List, [], ◌∷◌, map, Option, Some, None}
use Rattle.std.proofs.Common.{Ok, Err, arith, refl, sym, ap, subst, inl, inr}
use Rattle.std.specs.Prelude.{count_by, option_and_then, option_map, sum_by}
use Rattle.std.specs.List.{cons_option, filter_map}
use Rattle.std.specs.Option.{option_map_or}
use Rattle.std.specs.Str.{bytes_eq}
use Rattle.std.proofs.lemmas.List.Sums.{sum_by-cons}
use Rattle.portal_base.specs.Ordered.{IsAscending}
use Rattle.portal_base.proofs.Unique.{IsIn}
use Rattle.packages.proofs.FindLemmas.{map-IsIn}
use Rattle.harvest_readings.specs.Catalogues.{catalogue_by, catalogue_read, item_in, object_read, reading_in}
use Rattle.harvest_readings.specs.Harvests.{Documents, catalogue_at, graph_at, has_failed_object, is_read_fault}
use Rattle.harvest_readings.specs.declared.catalogue.Catalogue.{Catalogue}
use Rattle.harvest_readings.proofs.FailureLemmas.{failed-object}
use Rattle.harvest_results.proofs.SettlingLemmas.{unsettled-object, waiting-object}
use Rattle.harvest_sources.specs.Entries.{with_job, with_listing, with_source_at}
use Rattle.harvest_sources.specs.Listings.{bad_object, cause_of, first_items, first_progress, first_waiting, has_lesser_namesake}
use Rattle.harvest_sources.specs.Listings.{listing_of, object_cmp, object_of, outcome_if_done, with_progress}
use Rattle.harvest_sources.specs.Sources.{AreSources, SourceState}
use Rattle.harvest_sources.specs.Steps.{is_unsettled}
use Rattle.harvest_sources.specs.declared.cause.Cause.{Cause}
use Rattle.harvest_sources.specs.declared.job.Job.{Job}
use Rattle.harvest_sources.specs.declared.listing.ListedObject.{ListedObject}
use Rattle.harvest_sources.specs.declared.listing.Listing.{Listing}
use Rattle.harvest_sources.specs.declared.listing.Outcome.{Outcome}
use Rattle.harvest_sources.specs.declared.listing.Progress.TheVariants.{Claimed, Done as is_done_as}
use Rattle.harvest_sources.specs.declared.reading.Reading.{Reading}
use Rattle.harvest_sources.specs.declared.step.Found.{Found}
use Rattle.harvest_sources.specs.declared.step.Found.TheVariants.{Here, Elsewhere}
use Rattle.harvest_sources.specs.declared.step.Item.{Item}
use Rattle.harvest_pool.proofs.BoundLemmas.{object-sum, sum-at}
use Rattle.harvest_pool.proofs.GatheredLemmas.{AreItems}
use Rattle.harvest_pool.proofs.SourceLemmas.{Each, each-at}

-- ---- sums

pub sum-none : {X : Type 0} (f : X → ℕ) (xs : List X) → ((x : X) → IsIn x xs → f x ≡ 0) → sum_by f xs ≡ 0
sum-none f [] none = refl
sum-none f (x ∷ xs) none =
    let first = sum_by-cons f x xs in
    let here = none x (inl refl) in
    let rest = sum-none f xs (λ y m. none y (inr m)) in
    omega (arith, first, here, rest)

pub sum-kept : {X : Type 0} (f : X → ℕ) (g : X → X) → ((x : X) → f (g x) ≡ f x) → (xs : List X)
    → sum_by f (map g xs) ≡ sum_by f xs
sum-kept f g same [] = refl
sum-kept f g same (x ∷ xs) =
    let first = sum_by-cons f x xs in
    let moved = sum_by-cons f (g x) (map g xs) in
    let here = same x in
    let rest = sum-kept f g same xs in
    omega (arith, first, moved, here, rest)

pub sum-option : {X : Type 0} (f : X → ℕ) (o : Option X) (xs : List X)
    → sum_by f (cons_option o xs) ≡ option_map_or f o 0 + sum_by f xs
sum-option f None xs = omega arith
sum-option f (Some x) xs = sum_by-cons f x xs

-- ---- objects that came to a failed fetch

-- the cause is that of a fetch that failed, if there is one
abbrev pub is_failure : Option Cause → Bool
is_failure cause = option_map_or is_read_fault cause false

-- the object is done, and the fetch of its document failed
abbrev pub came_to_failure : ListedObject → Bool
came_to_failure o = is_failure (option_and_then cause_of (outcome_if_done o.progress))

abbrev pub failures_of : Listing → ℕ
failures_of l = count_by came_to_failure l.objects

abbrev pub failure_count : SourceState → ℕ
failure_count s = option_map_or failures_of s.listing 0

abbrev pub failures_among : List SourceState → ℕ
failures_among ss = sum_by failure_count ss

abbrev failure_one : ListedObject → ℕ
failure_one o = cond (came_to_failure o) 1 0

undone-one : (o : ListedObject) → outcome_if_done o.progress ≡ None → failure_one o ≡ 0
undone-one o undone = ap (λ (p : Option Outcome). cond (is_failure (option_and_then cause_of p)) 1 0) undone

-- A new listing has none,
pub new-failures : (source : List ℕ) (items : List Item) (unnamed : ℕ) → failures_of (listing_of source items unnamed) ≡ 0
new-failures source items unnamed =
    sum-none failure_one (listing_of source items unnamed).objects
    (λ o m. let w = map-IsIn (object_of source (first_items items)) o (first_items items) m in
    ap failure_one w.2 ∙ by w.0.iri (has_lesser_namesake source (first_items items) w.0) w.0.found)
  where
    by : (iri : List ℕ) (b : Bool) (found : Found)
        → failure_one (record { iri = iri; progress = first_progress b found }) ≡ 0
    by iri true found = refl
    by iri false found = refl

-- a claimed object adds none,
pub claimed-failures : (l : Listing) (item : Item) → IsAscending object_cmp l.objects → first_waiting l ≡ Some item
    → failures_of (with_progress item.iri (Claimed item.found) l) ≡ failures_of l
claimed-failures l item up is =
    let w = waiting-object l item is in
    let sum = object-sum failure_one l w.0 (Claimed item.found) up w.1 in
    let was = undone-one w.0 w.3 in
    let now : failure_one (record { iri = w.0.iri; progress = Claimed item.found }) ≡ 0 = refl in
    let alike : failures_of (with_progress w.0.iri (Claimed item.found) l)
    ≡ failures_of (with_progress item.iri (Claimed item.found) l) =
    ap (λ (iri : List ℕ). failures_of (with_progress iri (Claimed item.found) l)) w.2 in
    omega (arith, sum, was, now, alike)

-- and one that is settled adds itself, if it came to a failed fetch.
pub settled-failures : (l : Listing) (iri : List ℕ) (came : Outcome) → IsAscending object_cmp l.objects
    → is_unsettled iri l ≡ true
    → failures_of (with_progress iri (is_done_as came) l) ≡ failures_of l + cond (is_failure (cause_of came)) 1 0
settled-failures l iri came up is =
    let w = unsettled-object l iri is in
    let sum = object-sum failure_one l w.0 (is_done_as came) up w.1 in
    let was = undone-one w.0 w.3 in
    let now : failure_one (record { iri = w.0.iri; progress = is_done_as came }) ≡ cond (is_failure (cause_of came)) 1 0 =
    refl in
    let alike : failures_of (with_progress w.0.iri (is_done_as came) l)
    ≡ failures_of (with_progress iri (is_done_as came) l) =
    ap (λ (i : List ℕ). failures_of (with_progress i (is_done_as came) l)) w.2 in
    omega (arith, sum, was, now, alike)

-- The bad IRIs tell of them.
pub bad-failures : (os : List ListedObject)
    → count_by (λ bad. is_read_fault bad.1) (filter_map bad_object os) ≡ count_by came_to_failure os
bad-failures [] = refl
bad-failures (o ∷ os) =
    let first = sum-option told (bad_object o) (filter_map bad_object os) in
    let all = sum_by-cons failure_one o os in
    let here = by (option_and_then cause_of (outcome_if_done o.progress)) in
    let rest = bad-failures os in
    omega (arith, first, all, here, rest)
  where
    told : List ℕ × Cause → ℕ
    told bad = cond (is_read_fault bad.1) 1 0

    by : (c : Option Cause) → option_map_or told (option_map (λ (cause : Cause). (o.iri, cause)) c) 0 ≡ cond (is_failure c) 1 0
    by None = refl
    by (Some cause) = refl

-- ---- what catalogues describe

-- No item that is described in its catalogue tells of a failed fetch.
abbrev pub AreFetched : List Item → Type 0
AreFetched items = (i : Item) → IsIn i items → (r : Reading) → i.found ≡ Here r → has_failed_object r ≡ false

described-read : (b : Bool) (read r : Reading) → cond b (Here read) Elsewhere ≡ Here r → read ≡ r
described-read true read r e = cc
described-read false read r e = absurd (cc)

of_listing : (graph : _) → ((iri : List ℕ) → has_failed_object (reading_in graph iri) ≡ false) → (listing : _)
    (catalogue : Catalogue) → catalogue_by graph listing ≡ Ok catalogue → AreFetched catalogue.items
of_listing graph never None catalogue e i m r is = absurd (cc)
of_listing graph never (Some listing) catalogue e i m r is =
    let same : record { items = map (item_in graph) listing.iris; unnamed = listing.unnamed } ≡ catalogue = cc in
    let w = map-IsIn (item_in graph) i listing.iris (subst (λ (c : Catalogue). IsIn i c.items) (sym same) m) in
    ap has_failed_object (sym (described-read _ (reading_in graph w.0) r (ap (λ (j : Item). j.found) (sym w.2) ∙ is)))
    ∙ never w.0

graph-fetched : (documents : Documents) (failed : Bool) (url : List ℕ) (graph : _)
    → graph_at documents failed url ≡ Ok graph → (iri : List ℕ) → has_failed_object (reading_in graph iri) ≡ false
graph-fetched documents true url graph e iri = absurd (cc)
graph-fetched documents false url graph e iri =
    ap (λ r. has_failed_object (object_read r iri)) (sym e) ∙ failed-object (λ location. documents url) false iri

pub catalogue-fetched : (documents : Documents) (failed : Bool) (url : List ℕ) (catalogue : Catalogue)
    → catalogue_at documents failed url ≡ Ok catalogue → AreFetched catalogue.items
catalogue-fetched documents failed url catalogue e = of_graph (graph_at documents failed url) catalogue
    (λ graph is. graph-fetched documents failed url graph is) e
  where
    of_graph : (read : _) (c : Catalogue)
        → ((graph : _) → read ≡ Ok graph → (iri : List ℕ) → has_failed_object (reading_in graph iri) ≡ false)
        → catalogue_read read ≡ Ok c → AreFetched c.items
    of_graph (Ok graph) c never is = of_listing graph (never graph refl) _ c is
    of_graph (Err why) c never is = absurd (cc)

-- The objects that aren't done are items of such a catalogue.
abbrev pub IsFetched : Listing → Type 0
IsFetched l = (items : List Item) × AreFetched items × AreItems items l

abbrev pub ListsFetched : SourceState → Type 0
ListsFetched s = (l : Listing) → s.listing ≡ Some l → IsFetched l

abbrev pub AllFetched : List SourceState → Type 0
AllFetched ss = Each ListsFetched ss

-- ---- changes of one source

-- The sources have so many more objects that came to a failed fetch.
pub record Grows (ss : List SourceState) (n : ℕ) (after : List SourceState) : Type 0 where
  pub fetched : AllFetched after
  pub count : failures_among after ≡ failures_among ss + n

pub grows-none : (ss : List SourceState) → AllFetched ss → Grows ss 0 ss
grows-none ss fetched = record { fetched = fetched; count = omega arith }

job-listing : (job : Job) (s : SourceState) (b : Bool) → (cond b (with_job job s) s).listing ≡ s.listing
job-listing job s true = refl
job-listing job s false = refl

pub job-count : (name : List ℕ) (job : Job) (ss : List SourceState)
    → failures_among (with_source_at name (with_job job) ss) ≡ failures_among ss
job-count name job ss =
    sum-kept failure_count (λ (s : SourceState). cond (bytes_eq s.source.name name) (with_job job s) s)
    (λ s. ap (λ l. option_map_or failures_of l 0) (job-listing job s (bytes_eq s.source.name name))) ss

-- a job is put
pub grows-job : (name : List ℕ) (job : Job) (ss : List SourceState) → AllFetched ss
    → Grows ss 0 (with_source_at name (with_job job) ss)
grows-job name job ss fetched = record {
  fetched = λ z m l is.
      let w = map-IsIn (λ (s : SourceState). cond (bytes_eq s.source.name name) (with_job job s) s) z ss m in
      fetched w.0 w.1 l (sym (job-listing job w.0 (bytes_eq w.0.source.name name))
      ∙ sym (ap (λ (s : SourceState). s.listing) w.2) ∙ is);
  count = let same = job-count name job ss in omega (arith, same);
}

-- a listing is put
pub grows-listing : (ss : List SourceState) (t : SourceState) (next : Listing) (n : ℕ) → AreSources ss → IsIn t ss
    → AllFetched ss → IsFetched next → failures_of next ≡ failure_count t + n
    → Grows ss n (with_source_at t.source.name (with_listing (Some next)) ss)
grows-listing ss t next n fit m fetched more adds = record {
  fetched = each-at ListsFetched ss t (with_listing (Some next)) fit m (λ s k apart. fetched s k)
      (λ l is. let same : next ≡ l = cc in subst IsFetched same more);
  count =
      let sum = sum-at failure_count ss t (with_listing (Some next)) fit.ascending m in
      let now : failure_count (with_listing (Some next) t) ≡ failures_of next = refl in
      omega (arith, sum, now, adds);
}
