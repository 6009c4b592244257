-- A round makes few steps: each job that begins was new, and each object that is claimed waited.
use Rattle.std.specs.declared.cmp.Ordering.TheVariants.{Equal, Less}
use Rattle.std.proofs.Common.{◌≡◌, ◌≢◌, ◌∙◌, ◌+◌, ◌*◌, ◌≤◌, ℕ, Bool, true, false, not, ◌&&◌, cond, List, [], ◌∷◌}
use Rattle.std.proofs.Common.{◌++◌, length, map, set, get_or, Option, Some, None, Result, Ok, Err, refl, sym, ap, subst, inl, inr}
use Rattle.std.proofs.Common.{arith}
use Rattle.std.specs.Prelude.{count_by, find, is_some, sum_by, option_and_then, option_map}
use Rattle.std.specs.List.{flat_map}
use Rattle.std.specs.Option.{option_map_or}
use Rattle.std.specs.Str.{bytes_eq}
use Rattle.std.proofs.lemmas.List.{length-append, length-map}
use Rattle.std.proofs.lemmas.List.Sums.{sum_by-cons, sum_by-set}
use Rattle.std.proofs.lemmas.Slice.Eq.{bytes_eq-Decides}
use Rattle.portal_base.specs.Ordered.{IsAscending, upserted}
use Rattle.portal_base.proofs.Unique.{Contains-IsIn, IsIn, below_in}
use Rattle.packages.proofs.FindLemmas.{IsIn-find}
use Rattle.harvest_sources.specs.Entries.{PutJob, PutListing, sources_after, with_job, with_listing, with_source_at}
use Rattle.harvest_sources.specs.Jobs.{blank_report, id_of_job, in_state, is_new, is_running}
use Rattle.harvest_sources.specs.Listings.{first_waiting, is_waiting, listing_of}
use Rattle.harvest_sources.specs.Listings.{object_cmp, object_cmp_total, waiting_item, with_progress}
use Rattle.harvest_sources.specs.Sources.{AreSources, SourceState, is_listed, open_job, source_cmp}
use Rattle.harvest_sources.specs.Steps.{Stepped, begun, broken, claimed, claimed_from, claimed_in, has_new, idle, is_unsettled}
use Rattle.harvest_sources.specs.Steps.{listed, on_job, open_ids, outcome_of, settled, settled_in}
use Rattle.harvest_sources.specs.Steps.{renewed, renewed_with, waiting_of}
use Rattle.harvest_sources.specs.declared.cause.Cause.{Cause}
use Rattle.harvest_sources.specs.declared.job.Job.{Job}
use Rattle.harvest_sources.specs.declared.job.JobState.TheVariants as state
use Rattle.harvest_sources.specs.declared.listing.ListedObject.{ListedObject}
use Rattle.harvest_sources.specs.declared.listing.Listing.{Listing}
use Rattle.harvest_sources.specs.declared.listing.Outcome.{Outcome}
use Rattle.harvest_sources.specs.declared.listing.Progress.{Progress}
use Rattle.harvest_sources.specs.declared.listing.Progress.TheVariants.{Claimed, Done as is_done_as}
use Rattle.harvest_sources.specs.declared.step.Item.{Item}
use Rattle.harvest_sources.specs.declared.step.Step.TheVariants.{NewRound, Begin, Claim, Settle}
use Rattle.harvest_sources.specs.declared.step.StepReply.TheVariants.{Done, Ended, Gather, Object, Nothing, Already}
use Rattle.harvest_sources.proofs.PlaceLemmas.{set-upserted}
use Rattle.harvest_results.specs.Effects.{HarvestState, after_step, effect_of}
use Rattle.harvest_results.proofs.PhaseLemmas.{ascending_listing, has_jobs}
use Rattle.harvest_results.proofs.SourceEntryLemmas.{job_named, open-replaced, same_bytes}
use Rattle.harvest_readings.specs.declared.catalogue.Catalogue.{Catalogue}
use Rattle.harvest_pool.specs.Bounds.{most_steps, waiting_count, waiting_in, waiting_objects}
use Rattle.harvest_pool.specs.Made.{AreAnswered, Made, state_after}
use Rattle.harvest_pool.specs.Rounds.{CatalogueRead, IsWhole, JobEnded, ObjectSettled, Round, jobs_started}
use Rattle.harvest_pool.specs.Rounds.{step_of_catalogue, steps_of_catalogue, steps_of_catalogues, steps_of_ends}
use Rattle.harvest_pool.specs.Rounds.{steps_of_object, steps_of_objects, steps_of_round}
use Rattle.harvest_stages.proofs.StepLemmas.{all_renewed}
use Rattle.harvest_results.proofs.SettlingLemmas.{unsettled-object}
use Rattle.harvest_sources.specs.Listings.{waits_at}
use Rattle.harvest_sources.specs.declared.step.Found.{Found}
use Rattle.std.specs.List.{cons_option}
use Rattle.harvest_pool.specs.Rounds.{job_ended}
use Rattle.harvest_pool.proofs.SourceLemmas.{item_at, answered-parts, fit-after}

-- ---- a sum over sources

below_apart : (s t : SourceState) → source_cmp s t ≡ Less → s.source.name ≢ t.source.name
below_apart s t less same = let no : source_cmp s t ≡ Equal = same_bytes s.source.name t.source.name same in absurd (cc)

-- what a source adds that stays as it is
same-tail : (name : List ℕ) (change : SourceState → SourceState) (ss : List SourceState)
    → ((s : SourceState) → IsIn s ss → s.source.name ≢ name) → with_source_at name change ss ≡ ss
same-tail name change [] apart = refl
same-tail name change (s ∷ ss) apart =
    by (bytes_eq s.source.name name) refl (same-tail name change ss (λ t m. apart t (inr m)))
  where
    by : (b : Bool) → bytes_eq s.source.name name ≡ b → with_source_at name change ss ≡ ss
        → cond b (change s) s ∷ with_source_at name change ss ≡ s ∷ ss
    by true like rest = absurd (apart s (inl refl) ((bytes_eq-Decides s.source.name name).0 like))
    by false unlike rest = ap (λ l. s ∷ l) rest

-- Only the changed source adds something else.
pub sum-at : (f : SourceState → ℕ) (ss : List SourceState) (t : SourceState) (change : SourceState → SourceState)
    → IsAscending source_cmp ss → IsIn t ss
    → sum_by f (with_source_at t.source.name change ss) + f t ≡ sum_by f ss + f (change t)
sum-at f [] t change up m = absurd m
sum-at f (s ∷ ss) t change up (inl same) =
    let here : bytes_eq s.source.name t.source.name ≡ true =
    (bytes_eq-Decides s.source.name t.source.name).1 (ap (λ (u : SourceState). u.source.name) (sym same)) in
    let tail : with_source_at t.source.name change ss ≡ ss =
    same-tail t.source.name change ss (λ u n alike. below_apart s u (below_in source_cmp s u ss up.0 n)
    (ap (λ (v : SourceState). v.source.name) (sym same) ∙ sym alike)) in
    let whole : with_source_at t.source.name change (s ∷ ss) ≡ change s ∷ ss =
    ap (λ b. cond b (change s) s ∷ with_source_at t.source.name change ss) here ∙ ap (λ l. change s ∷ l) tail in
    let first : sum_by f (with_source_at t.source.name change (s ∷ ss)) ≡ f (change s) + sum_by f ss =
    ap (sum_by f) whole ∙ sum_by-cons f (change s) ss in
    let old : sum_by f (s ∷ ss) ≡ f s + sum_by f ss = sum_by-cons f s ss in
    let ft : f t ≡ f s = ap f same in
    let gt : f (change t) ≡ f (change s) = ap (λ (u : SourceState). f (change u)) same in
    omega (arith, first, old, ft, gt)
sum-at f (s ∷ ss) t change up (inr m) =
    let apart : bytes_eq s.source.name t.source.name ≡ false =
    unlike (bytes_eq s.source.name t.source.name) refl in
    let whole : with_source_at t.source.name change (s ∷ ss) ≡ s ∷ with_source_at t.source.name change ss =
    ap (λ b. cond b (change s) s ∷ with_source_at t.source.name change ss) apart in
    let first : sum_by f (with_source_at t.source.name change (s ∷ ss))
    ≡ f s + sum_by f (with_source_at t.source.name change ss) =
    ap (sum_by f) whole ∙ sum_by-cons f s (with_source_at t.source.name change ss) in
    let old : sum_by f (s ∷ ss) ≡ f s + sum_by f ss = sum_by-cons f s ss in
    let rest = sum-at f ss t change up.1 m in
    omega (arith, first, old, rest)
  where
    unlike : (b : Bool) → bytes_eq s.source.name t.source.name ≡ b → b ≡ false
    unlike false e = refl
    unlike true e =
        absurd (below_apart s t (below_in source_cmp s t ss up.0 m) ((bytes_eq-Decides s.source.name t.source.name).0 e))

-- ---- new jobs

abbrev new_one : SourceState → ℕ
new_one s = cond (has_new s) 1 0

new_of : (s : SourceState) (o : Option Job) (b : Bool) → open_job s ≡ o → option_map_or is_new o false ≡ b
    → new_one s ≡ cond b 1 0
new_of s o b opens is =
    ap (λ (p : Option Job). cond (option_map_or is_new p false) 1 0) opens ∙ ap (λ c. cond c 1 0) is

-- One job fewer is new once it has begun.
begun-fewer : (ss : List SourceState) (id url : List ℕ) → AreSources ss
    → Gather id url ≡ (on_job Nothing begun (find has_new ss)).reply
    → count_by has_new (sources_after (on_job Nothing begun (find has_new ss)).entries ss) + 1 ≡ count_by has_new ss
begun-fewer ss id url fit e = by (find has_new ss) refl e
  where
    on : (t : SourceState) (job : Job) → IsIn t ss → has_new t ≡ true → open_job t ≡ Some job
        → count_by has_new (with_source_at job.source (with_job (in_state state.Running job)) ss) + 1
        ≡ count_by has_new ss
    on t job m new opens =
        let name : job.source ≡ t.source.name = job_named t job (has_jobs ss fit t m) opens in
        let sum = sum-at new_one ss t (with_job (in_state state.Running job)) fit.ascending m in
        let was : new_one t ≡ 1 = ap (λ b. cond b 1 0) new in
        let now : new_one (with_job (in_state state.Running job) t) ≡ 0 =
        new_of (with_job (in_state state.Running job) t) (Some (in_state state.Running job)) false
        (open-replaced t job (in_state state.Running job) (has_jobs ss fit t m) opens refl) refl in
        let moved : count_by has_new (with_source_at job.source (with_job (in_state state.Running job)) ss)
        ≡ count_by has_new (with_source_at t.source.name (with_job (in_state state.Running job)) ss) =
        ap (λ (n : List ℕ). count_by has_new (with_source_at n (with_job (in_state state.Running job)) ss)) name in
        omega (arith, sum, was, now, moved)

    at_open : (t : SourceState) → find has_new ss ≡ Some t → (o : Option Job) → open_job t ≡ o
        → Gather id url ≡ (option_map_or (begun t) o (idle Nothing)).reply
        → count_by has_new (sources_after (option_map_or (begun t) o (idle Nothing)).entries ss) + 1
        ≡ count_by has_new ss
    at_open t is None opens e = absurd (cc)
    at_open t is (Some job) opens e =
        let there = IsIn-find has_new t ss is in on t job there.0 there.1 opens

    by : (o : Option SourceState) → find has_new ss ≡ o → Gather id url ≡ (on_job Nothing begun o).reply
        → count_by has_new (sources_after (on_job Nothing begun o).entries ss) + 1 ≡ count_by has_new ss
    by None is e = absurd (cc)
    by (Some t) is e = at_open t is (open_job t) refl e

-- A change of one source that makes no job new makes none more.
no-more : (ss : List SourceState) (t : SourceState) (name : List ℕ) (change : SourceState → SourceState)
    → AreSources ss → IsIn t ss → name ≡ t.source.name → new_one (change t) ≤ new_one t
    → count_by has_new (with_source_at name change ss) ≤ count_by has_new ss
no-more ss t name change fit m named less =
    let sum = sum-at new_one ss t change fit.ascending m in
    let moved : count_by has_new (with_source_at name change ss)
    ≡ count_by has_new (with_source_at t.source.name change ss) =
    ap (λ (n : List ℕ). count_by has_new (with_source_at n change ss)) named in
    omega (arith, sum, moved, less)

-- A step on the job that is found makes no job new.
on_job-no_more : (ss : List SourceState) (p : SourceState → Bool) (make : SourceState → Job → Stepped)
    → ((t : SourceState) (job : Job) → IsIn t ss → open_job t ≡ Some job
    → count_by has_new (sources_after (make t job).entries ss) ≤ count_by has_new ss)
    → count_by has_new (sources_after (on_job Already make (find p ss)).entries ss) ≤ count_by has_new ss
on_job-no_more ss p make each = by (find p ss) refl
  where
    same : count_by has_new ss ≤ count_by has_new ss
    same = omega arith

    at_open : (t : SourceState) → IsIn t ss → (o : Option Job) → open_job t ≡ o
        → count_by has_new (sources_after (option_map_or (make t) o (idle Already)).entries ss) ≤ count_by has_new ss
    at_open t m None opens = same
    at_open t m (Some job) opens = each t job m opens

    by : (o : Option SourceState) → find p ss ≡ o
        → count_by has_new (sources_after (on_job Already make o).entries ss) ≤ count_by has_new ss
    by None is = same
    by (Some t) is = at_open t (IsIn-find p t ss is).0 (open_job t) refl

listed-no_more : (ss : List SourceState) (p : SourceState → Bool) (items : List Item) (unnamed : ℕ) → AreSources ss
    → count_by has_new (sources_after (on_job Already (listed items unnamed) (find p ss)).entries ss)
    ≤ count_by has_new ss
listed-no_more ss p items unnamed fit =
    on_job-no_more ss p (listed items unnamed) (λ t job m opens. by t job m (is_running job && not (is_listed t)))
  where
    by : (t : SourceState) (job : Job) → IsIn t ss → (b : Bool)
        → count_by has_new (sources_after (cond b (record {
          entries = PutListing t.source.name (Some (listing_of t.source.name items unnamed)) ∷ [];
          reply = Done;
        }) (idle Already)).entries ss) ≤ count_by has_new ss
    by t job m false = omega arith
    by t job m true =
        no-more ss t t.source.name (with_listing (Some (listing_of t.source.name items unnamed))) fit m refl
        (omega arith)

broken-no_more : (ss : List SourceState) (p : SourceState → Bool) (cause : Cause) → AreSources ss
    → count_by has_new (sources_after (on_job Already (broken cause) (find p ss)).entries ss) ≤ count_by has_new ss
broken-no_more ss p cause fit =
    on_job-no_more ss p (broken cause) (λ t job m opens. by t job m opens (is_running job && not (is_listed t)))
  where
    by : (t : SourceState) (job : Job) → IsIn t ss → open_job t ≡ Some job → (b : Bool)
        → count_by has_new (sources_after (cond b (record {
          entries = PutJob (in_state (state.Broken cause) job) ∷ [];
          reply = Ended (blank_report job.source (state.Broken cause));
        }) (idle Already)).entries ss) ≤ count_by has_new ss
    by t job m opens false = omega arith
    by t job m opens true =
        let none : new_one (with_job (in_state (state.Broken cause) job) t) ≡ 0 =
        new_of (with_job (in_state (state.Broken cause) job) t) None false
        (open-replaced t job (in_state (state.Broken cause) job) (has_jobs ss fit t m) opens refl) refl in
        no-more ss t job.source (with_job (in_state (state.Broken cause) job)) fit m
        (job_named t job (has_jobs ss fit t m) opens) (omega (arith, none))

-- Each catalogue that is read was that of a new job.
catalogue-fewer : (c : CatalogueRead) (st : HarvestState) → AreSources st.sources
    → AreAnswered (steps_of_catalogue c) st
    → count_by has_new (state_after (steps_of_catalogue c) st).sources + 1 ≤ count_by has_new st.sources
catalogue-fewer c st fit answered =
    let first = begun-fewer st.sources c.job c.url fit answered.0 in
    let second = by c.read in
    omega (arith, first, second)
  where
    by : (read : Result Catalogue Cause)
        → count_by has_new (after_step (step_of_catalogue c.job read) (after_step Begin st)).sources
        ≤ count_by has_new (after_step Begin st).sources
    by (Ok catalogue) =
        listed-no_more (after_step Begin st).sources
        (λ s. option_map_or (λ (j : Job). bytes_eq (id_of_job j) c.job) (open_job s) false) catalogue.items
        catalogue.unnamed (fit-after Begin st fit)
    by (Err cause) =
        broken-no_more (after_step Begin st).sources
        (λ s. option_map_or (λ (j : Job). bytes_eq (id_of_job j) c.job) (open_job s) false) cause
        (fit-after Begin st fit)

catalogues-few : (cs : List CatalogueRead) (st : HarvestState) → AreSources st.sources
    → AreAnswered (flat_map steps_of_catalogue cs) st → length cs ≤ count_by has_new st.sources
catalogues-few [] st fit answered = omega arith
catalogues-few (c ∷ cs) st fit answered =
    let first = catalogue-fewer c st fit (answered.0, (answered.1.0, tt)) in
    let fit_next = fit-after (step_of_catalogue c.job c.read) (after_step Begin st) (fit-after Begin st fit) in
    let rest = catalogues-few cs (state_after (steps_of_catalogue c) st) fit_next answered.1.1 in
    omega (arith, first, rest)

-- ---- waiting objects

abbrev waiting_one : ListedObject → ℕ
waiting_one o = cond (is_waiting o) 1 0

-- The object of that IRI in a listing, with its progress put anew: it alone adds something else to a sum over objects.
pub object-sum : (f : ListedObject → ℕ) (l : Listing) (o : ListedObject) (progress : Progress)
    → IsAscending object_cmp l.objects → IsIn o l.objects
    → sum_by f (with_progress o.iri progress l).objects + f o
    ≡ sum_by f l.objects + f (record { iri = o.iri; progress = progress })
object-sum f l o progress up m =
    let at = Contains-IsIn o l.objects m in
    let new : ListedObject = record { iri = o.iri; progress = progress } in
    let put : set l.objects at.0 new ≡ upserted object_cmp new l.objects =
    set-upserted object_cmp object_cmp_total l.objects at.0 o new up at.1
    (ap (λ (x : ListedObject). object_cmp x new) at.2 ∙ same_bytes o.iri o.iri refl) in
    let sum = sum_by-set f l.objects at.0 new o at.1 in
    let moved : sum_by f (with_progress o.iri progress l).objects ≡ sum_by f (set l.objects at.0 new) =
    ap (sum_by f) (sym put) in
    let old : f (get_or l.objects at.0 o) ≡ f o = ap f at.2 in
    omega (arith, sum, moved, old)

progress-sum : (l : Listing) (o : ListedObject) (progress : Progress) → IsAscending object_cmp l.objects
    → IsIn o l.objects
    → waiting_in (with_progress o.iri progress l) + waiting_one o
    ≡ waiting_in l + waiting_one (record { iri = o.iri; progress = progress })
progress-sum l o progress up m = object-sum waiting_one l o progress up m

item-iri : (o : ListedObject) (item : Item) → waiting_item o ≡ Some item → o.iri ≡ item.iri
item-iri o item e = by (waits_at o.progress) e
  where
    by : (w : Option Found) → option_map (λ (f : Found). item_at o.iri f) w ≡ Some item → o.iri ≡ item.iri
    by None e = absurd (cc)
    by (Some f) e = let same : item_at o.iri f ≡ item = cc in ap (λ (i : Item). i.iri) same

-- the first waiting object
first-object : (l : Listing) (item : Item) → first_waiting l ≡ Some item
    → (o : ListedObject) × IsIn o l.objects × (o.iri ≡ item.iri) × (is_waiting o ≡ true)
first-object l item is = by (find is_waiting l.objects) refl is
  where
    by : (r : Option ListedObject) → find is_waiting l.objects ≡ r → option_and_then waiting_item r ≡ Some item
        → (o : ListedObject) × IsIn o l.objects × (o.iri ≡ item.iri) × (is_waiting o ≡ true)
    by None found e = absurd (cc)
    by (Some o) found e =
        let there = IsIn-find is_waiting o l.objects found in (o, there.0, item-iri o item e, there.1)

-- a change of what one source lists
listing-sum : (ss : List SourceState) (t : SourceState) (l next : Listing) → AreSources ss → IsIn t ss
    → t.listing ≡ Some l
    → waiting_objects (with_source_at t.source.name (with_listing (Some next)) ss) + waiting_in l
    ≡ waiting_objects ss + waiting_in next
listing-sum ss t l next fit m is =
    let sum = sum-at waiting_count ss t (with_listing (Some next)) fit.ascending m in
    let was : waiting_count t ≡ waiting_in l = ap (λ (o : Option Listing). option_map_or waiting_in o 0) is in
    omega (arith, sum, was)

-- One object fewer waits once it is claimed.
claimed-fewer : (ss : List SourceState) (id : List ℕ) (item : Item) → AreSources ss
    → Object id item ≡ (on_job Nothing claimed (find (λ s. is_some (waiting_of s)) ss)).reply
    → waiting_objects (sources_after (on_job Nothing claimed (find (λ s. is_some (waiting_of s)) ss)).entries ss) + 1
    ≡ waiting_objects ss
claimed-fewer ss id item fit e = by (find (λ (s : SourceState). is_some (waiting_of s)) ss) refl e
  where
    on : (t : SourceState) (l : Listing) (other : Item) → IsIn t ss → t.listing ≡ Some l
        → first_waiting l ≡ Some other
        → waiting_objects (with_source_at t.source.name
        (with_listing (Some (with_progress other.iri (Claimed other.found) l))) ss) + 1
        ≡ waiting_objects ss
    on t l other m is first =
        let w = first-object l other first in
        let progress : Progress = Claimed other.found in
        let one = progress-sum l w.0 progress (ascending_listing t l (has_jobs ss fit t m) is) w.1 in
        let waits : waiting_one w.0 ≡ 1 = ap (λ b. cond b 1 0) w.3 in
        let alike : waiting_in (with_progress w.0.iri progress l) ≡ waiting_in (with_progress other.iri progress l) =
        ap (λ (n : List ℕ). waiting_in (with_progress n progress l)) w.2 in
        let sum = listing-sum ss t l (with_progress other.iri progress l) fit m is in
        omega (arith, one, waits, alike, sum)

    at_item : (t : SourceState) (job : Job) (l : Listing) → IsIn t ss → t.listing ≡ Some l → (o : Option Item)
        → first_waiting l ≡ o → Object id item ≡ (option_map_or (claimed_in t job l) o (idle Nothing)).reply
        → waiting_objects (sources_after (option_map_or (claimed_in t job l) o (idle Nothing)).entries ss) + 1
        ≡ waiting_objects ss
    at_item t job l m is None first e = absurd (cc)
    at_item t job l m is (Some other) first e = on t l other m is first

    at_listing : (t : SourceState) (job : Job) → IsIn t ss → (l : Option Listing) → t.listing ≡ l
        → Object id item ≡ (claimed_from t job l).reply
        → waiting_objects (sources_after (claimed_from t job l).entries ss) + 1 ≡ waiting_objects ss
    at_listing t job m None is e = absurd (cc)
    at_listing t job m (Some l) is e = at_item t job l m is (first_waiting l) refl e

    at_open : (t : SourceState) → IsIn t ss → (o : Option Job)
        → Object id item ≡ (option_map_or (claimed t) o (idle Nothing)).reply
        → waiting_objects (sources_after (option_map_or (claimed t) o (idle Nothing)).entries ss) + 1
        ≡ waiting_objects ss
    at_open t m None e = absurd (cc)
    at_open t m (Some job) e = at_listing t job m t.listing refl e

    by : (o : Option SourceState) → find (λ (s : SourceState). is_some (waiting_of s)) ss ≡ o
        → Object id item ≡ (on_job Nothing claimed o).reply
        → waiting_objects (sources_after (on_job Nothing claimed o).entries ss) + 1 ≡ waiting_objects ss
    by None is e = absurd (cc)
    by (Some t) is e =
        at_open t (IsIn-find (λ (s : SourceState). is_some (waiting_of s)) t ss is).0 (open_job t) e

-- An object that is settled lets none wait.
settled-no_more : (ss : List SourceState) (p : SourceState → Bool) (iri : List ℕ) (came : Outcome) → AreSources ss
    → waiting_objects (sources_after (on_job Already (settled iri came) (find p ss)).entries ss) ≤ waiting_objects ss
settled-no_more ss p iri came fit = by (find p ss) refl
  where
    same : waiting_objects ss ≤ waiting_objects ss
    same = omega arith

    at_iri : (t : SourceState) (l : Listing) → IsIn t ss → t.listing ≡ Some l → (b : Bool) → is_unsettled iri l ≡ b
        → waiting_objects (sources_after (cond b (record {
          entries = PutListing t.source.name (Some (with_progress iri (is_done_as came) l)) ∷ [];
          reply = Done;
        }) (idle Already)).entries ss) ≤ waiting_objects ss
    at_iri t l m is false e = same
    at_iri t l m is true e =
        let w = unsettled-object l iri e in
        let progress : Progress = is_done_as came in
        let one = progress-sum l w.0 progress (ascending_listing t l (has_jobs ss fit t m) is) w.1 in
        let alike : waiting_in (with_progress w.0.iri progress l) ≡ waiting_in (with_progress iri progress l) =
        ap (λ (n : List ℕ). waiting_in (with_progress n progress l)) w.2 in
        let sum = listing-sum ss t l (with_progress iri progress l) fit m is in
        omega (arith, one, alike, sum)

    at_listing : (t : SourceState) → IsIn t ss → (l : Option Listing) → t.listing ≡ l
        → waiting_objects (sources_after (settled_in iri came t l).entries ss) ≤ waiting_objects ss
    at_listing t m None is = same
    at_listing t m (Some l) is = at_iri t l m is (is_unsettled iri l) refl

    at_open : (t : SourceState) → IsIn t ss → (o : Option Job)
        → waiting_objects (sources_after (option_map_or (settled iri came t) o (idle Already)).entries ss)
        ≤ waiting_objects ss
    at_open t m None = same
    at_open t m (Some job) = at_listing t m t.listing refl

    by : (o : Option SourceState) → find p ss ≡ o
        → waiting_objects (sources_after (on_job Already (settled iri came) o).entries ss) ≤ waiting_objects ss
    by None is = same
    by (Some t) is = at_open t (IsIn-find p t ss is).0 (open_job t)

-- Each object that is settled waited before.
object-fewer : (o : ObjectSettled) (st : HarvestState) → AreSources st.sources → AreAnswered (steps_of_object o) st
    → waiting_objects (state_after (steps_of_object o) st).sources + 1 ≤ waiting_objects st.sources
object-fewer o st fit answered =
    let first = claimed-fewer st.sources o.job o.item fit answered.0 in
    let second = settled-no_more (after_step Claim st).sources
    (λ s. option_map_or (λ (j : Job). bytes_eq (id_of_job j) o.job) (open_job s) false) o.item.iri
    (outcome_of o.reading (effect_of (Settle o.job o.item.iri o.reading) (after_step Claim st)))
    (fit-after Claim st fit) in
    omega (arith, first, second)

objects-few : (os : List ObjectSettled) (st : HarvestState) → AreSources st.sources
    → AreAnswered (flat_map steps_of_object os) st → length os ≤ waiting_objects st.sources
objects-few [] st fit answered = omega arith
objects-few (o ∷ os) st fit answered =
    let first = object-fewer o st fit (answered.0, (answered.1.0, tt)) in
    let fit_next = fit-after (Settle o.job o.item.iri o.reading) (after_step Claim st) (fit-after Claim st fit) in
    let rest = objects-few os (state_after (steps_of_object o) st) fit_next answered.1.1 in
    omega (arith, first, rest)

-- ---- the round

two-each : {X : Type 0} (steps : X → List Made) → ((x : X) → length (steps x) ≡ 2) → (xs : List X)
    → length (flat_map steps xs) ≡ 2 * length xs
two-each steps two [] = refl
two-each steps two (x ∷ xs) =
    let first = length-append (steps x) (flat_map steps xs) in
    let here = two x in
    let rest = two-each steps two xs in
    omega (arith, first, here, rest)

-- Each source has at most one new job when a round begins, and only if it had an open one.
new-few : (ss : List SourceState) → count_by has_new (map renewed ss) ≤ length (open_ids ss)
new-few [] = omega arith
new-few (s ∷ ss) =
    let sum = sum_by-cons new_one (renewed s) (map renewed ss) in
    let rest = new-few ss in
    by (open_job s) refl sum rest
  where
    none : open_job s ≡ None → (l : Option Listing) → new_one (renewed_with s l None) ≡ 0
    none opens None = new_of s None false opens refl
    none opens (Some listing) = new_of s None false opens refl

    one : (b : Bool) → cond b 1 0 ≤ 1
    one true = omega arith
    one false = omega arith

    by : (o : Option Job) → open_job s ≡ o
        → count_by has_new (map renewed (s ∷ ss)) ≡ new_one (renewed s) + count_by has_new (map renewed ss)
        → count_by has_new (map renewed ss) ≤ length (open_ids ss)
        → count_by has_new (map renewed (s ∷ ss)) ≤ length (cons_option (option_map id_of_job o) (open_ids ss))
    by None opens sum rest =
        let nothing : new_one (renewed s) ≡ 0 =
        ap (λ (o : Option Job). new_one (renewed_with s s.listing o)) opens ∙ none opens s.listing in
        omega (arith, sum, rest, nothing)
    by (Some job) opens sum rest =
        let at_most = one (has_new (renewed s)) in omega (arith, sum, rest, at_most)

started-few : (st : HarvestState) → AreSources st.sources
    → count_by has_new (after_step NewRound st).sources ≤ length (open_ids st.sources)
started-few st fit =
    subst (λ (ss : List SourceState). count_by has_new ss ≤ length (open_ids st.sources))
    (sym (all_renewed st.sources fit.ascending (λ s m. has_jobs st.sources fit s m))) (new-few st.sources)

pub whole-few : (st : HarvestState) (r : Round) → AreSources st.sources → IsWhole r
    → AreAnswered (steps_of_round r) st → length (steps_of_round r) ≤ most_steps st r
whole-few st r fit whole answered =
    let one : HarvestState = after_step NewRound st in
    let two : HarvestState = state_after (steps_of_catalogues r.catalogues) one in
    let begin : List Made = record { step = Begin; answer = r.catalogues.last } ∷ [] in
    let claim : List Made = record { step = Claim; answer = r.objects.last } ∷ [] in
    let parts = answered-parts (steps_of_catalogues r.catalogues) (steps_of_objects r.objects ++ steps_of_ends r.ends)
    one answered.1 in
    let more = answered-parts (steps_of_objects r.objects) (steps_of_ends r.ends) two parts.1 in
    let reads = answered-parts (flat_map steps_of_catalogue r.catalogues.done) begin one parts.0 in
    let settles = answered-parts (flat_map steps_of_object r.objects.done) claim two more.0 in
    let fit_one = fit-after NewRound st fit in
    let fit_two = fit-all (steps_of_catalogues r.catalogues) one fit_one in
    let cs = catalogues-few r.catalogues.done one fit_one reads.0 in
    let os = objects-few r.objects.done two fit_two settles.0 in
    let new = started-few st fit in
    let ends : length r.ends ≡ length (open_ids st.sources) =
    sym (length-map r.ends (λ (e : JobEnded). e.job)) ∙ ap length (whole.ended ∙ ap jobs_started answered.0) in
    let c_steps = two-each steps_of_catalogue (λ c. refl) r.catalogues.done in
    let o_steps = two-each steps_of_object (λ o. refl) r.objects.done in
    let c_all = length-append (flat_map steps_of_catalogue r.catalogues.done) begin in
    let o_all = length-append (flat_map steps_of_object r.objects.done) claim in
    let e_all : length (steps_of_ends r.ends) ≡ length r.ends = length-map r.ends job_ended in
    let rest = length-append (steps_of_objects r.objects) (steps_of_ends r.ends) in
    let all = length-append (steps_of_catalogues r.catalogues) (steps_of_objects r.objects ++ steps_of_ends r.ends) in
    omega (arith, cs, os, new, ends, c_steps, o_steps, c_all, o_all, e_all, rest, all)
  where
    fit-all : (steps : List Made) (st : HarvestState) → AreSources st.sources
        → AreSources (state_after steps st).sources
    fit-all [] st fit = fit
    fit-all (m ∷ ms) st fit = fit-all ms (after_step m.step st) (fit-after m.step st fit)
