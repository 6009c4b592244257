-- The reports of a round tell of the fetches that failed in it.
use Rattle.std.proofs.Common.{◌≡◌, ◌∙◌, ◌+◌, ℕ, Bool, true, false, not, ◌&&◌, cond, List, [], ◌∷◌, Option, Some}
use Rattle.std.proofs.Common.{None, Result, Ok, Err, arith, refl, sym, ap, subst, inl, inr}
use Rattle.std.specs.Prelude.{count_by, find, is_some, sum_by}
use Rattle.std.specs.List.{flat_map}
use Rattle.std.specs.Option.{option_map_or}
use Rattle.std.specs.Str.{bytes_eq}
use Rattle.std.proofs.lemmas.List.Sums.{sum_by-cons}
use Rattle.portal_base.proofs.Unique.{IsIn}
use Rattle.packages.proofs.FindLemmas.{IsIn-find}
use Rattle.harvest_readings.specs.Harvests.{Documents, catalogue_at, has_failed_catalogue, has_failed_object, is_read_fault}
use Rattle.harvest_readings.specs.declared.catalogue.Catalogue.{Catalogue}
use Rattle.harvest_results.specs.Effects.{HarvestState, after_step, change_of_step, effect_of}
use Rattle.harvest_results.proofs.PhaseLemmas.{ascending_listing, has_jobs, outcome-cause}
use Rattle.harvest_results.proofs.SettlingLemmas.{cause_in}
use Rattle.harvest_results.proofs.SourceEntryLemmas.{job_named, open-replaced}
use Rattle.harvest_sources.specs.Entries.{PutJob, PutListing, SourceEntry, sources_after, with_job, with_listing, with_source_at}
use Rattle.harvest_sources.specs.Jobs.{blank_report, id_of_job, in_state, is_running}
use Rattle.harvest_sources.specs.Listings.{cause_of, first_waiting, listing_of, with_progress}
use Rattle.harvest_sources.specs.Sources.{AreSources, SourceState, open_job}
use Rattle.harvest_sources.specs.Steps.{Stepped, begun, broken, claimed, claimed_from, claimed_in}
use Rattle.harvest_sources.specs.Steps.{has_new, idle, listed, on_job, outcome_of}
use Rattle.harvest_sources.specs.Steps.{settled, with_open_job}
use Rattle.harvest_sources.specs.declared.cause.Cause.{Cause}
use Rattle.harvest_sources.specs.declared.job.Job.{Job}
use Rattle.harvest_sources.specs.declared.job.JobState.TheVariants as state
use Rattle.harvest_sources.specs.declared.job.SourceReport.{SourceReport}
use Rattle.harvest_sources.specs.declared.listing.Listing.{Listing}
use Rattle.harvest_sources.specs.declared.listing.Outcome.{Outcome}
use Rattle.harvest_sources.specs.declared.listing.Progress.TheVariants.{Claimed, Done as is_done_as}
use Rattle.harvest_sources.specs.declared.reading.Reading.{Reading}
use Rattle.harvest_sources.specs.declared.reading.Reading.TheVariants.{Good, Bad}
use Rattle.harvest_sources.specs.declared.step.Found.{Found}
use Rattle.harvest_sources.specs.declared.step.Found.TheVariants.{Here, Elsewhere}
use Rattle.harvest_sources.specs.declared.step.Item.{Item}
use Rattle.harvest_sources.specs.declared.step.Step.TheVariants.{Begin, List as list, Break, Claim, Settle}
use Rattle.harvest_sources.specs.declared.step.StepReply.TheVariants.{Nothing, Done, Ended, Already}
use Rattle.harvest_pool.specs.Made.{AreAnswered, state_after}
use Rattle.harvest_pool.specs.Rounds.{CatalogueRead, IsAsClaimed, IsCatalogueOf, IsReadingOf, ObjectSettled}
use Rattle.harvest_pool.specs.Rounds.{failed_to_read, failed_to_settle, has_failed_at, report_of, reports_of_catalogues}
use Rattle.harvest_pool.specs.Rounds.{step_of_catalogue, steps_of_catalogue}
use Rattle.harvest_pool.specs.Rounds.{steps_of_object}
use Rattle.harvest_pool.specs.WholeRounds.{failures_in}
use Rattle.harvest_pool.proofs.FailureCountLemmas.{AllFetched, AreFetched, Grows, IsFetched, catalogue-fetched}
use Rattle.harvest_pool.proofs.FailureCountLemmas.{claimed-failures, failure_count, failures_of, grows-job}
use Rattle.harvest_pool.proofs.FailureCountLemmas.{grows-listing, grows-none, is_failure, new-failures, settled-failures}
use Rattle.harvest_pool.proofs.FailureCountLemmas.{sum-option}
use Rattle.harvest_pool.proofs.GatheredLemmas.{items-claimed, items-listed, items-settled, waiting-listed}
use Rattle.harvest_pool.proofs.ReportedLemmas.{reports-none}
use Rattle.harvest_pool.proofs.SourceLemmas.{claimed-unsettled, fit-after, new-unlisted, open-found}
use Rattle.harvest_pool.proofs.SourceLemmas.{there-at}
use Rattle.harvest_pool.proofs.StageLemmas.{Begun, ClaimedOne, begun-job, begun_source, claimed-one, waits}

-- how many failed fetches the report tells of, if there is one
abbrev pub told_in : Option SourceReport → ℕ
told_in report = option_map_or failures_in report 0

-- ---- jobs that begin, and catalogues

pub begin-grows : (ss : List SourceState) → AllFetched ss
    → Grows ss 0 (sources_after (on_job Nothing begun (find has_new ss)).entries ss)
begin-grows ss fetched = by (find has_new ss)
  where
    at_open : (t : SourceState) (o : Option Job)
        → Grows ss 0 (sources_after (option_map_or (begun t) o (idle Nothing)).entries ss)
    at_open t None = grows-none ss fetched
    at_open t (Some job) = grows-job job.source (in_state state.Running job) ss fetched

    by : (o : Option SourceState) → Grows ss 0 (sources_after (on_job Nothing begun o).entries ss)
    by None = grows-none ss fetched
    by (Some t) = at_open t (open_job t)

list-grows : (ss : List SourceState) (id : List ℕ) (items : List Item) (unnamed : ℕ) → AreSources ss → AllFetched ss
    → AreFetched items
    → Grows ss 0 (sources_after (on_job Already (listed items unnamed) (with_open_job ss id)).entries ss)
list-grows ss id items unnamed fit fetched good = by (with_open_job ss id) refl
  where
    on : (t : SourceState) → IsIn t ss → (job : Job) (runs : Bool) (l : Option Listing) → t.listing ≡ l
        → Grows ss 0 (sources_after (cond (runs && not (is_some l)) (record {
          entries = PutListing t.source.name (Some (listing_of t.source.name items unnamed)) ∷ [];
          reply = Done;
        }) (idle Already)).entries ss)
    on t m job false l is = grows-none ss fetched
    on t m job true (Some l) is = grows-none ss fetched
    on t m job true None is =
        let none : failure_count t ≡ 0 = ap (λ (o : Option Listing). option_map_or failures_of o 0) is in
        let new = new-failures t.source.name items unnamed in
        grows-listing ss t (listing_of t.source.name items unnamed) 0 fit m fetched
        (items, good, items-listed t.source.name items unnamed) (omega (arith, none, new))

    at_open : (t : SourceState) → IsIn t ss → (o : Option Job)
        → Grows ss 0 (sources_after (option_map_or (listed items unnamed t) o (idle Already)).entries ss)
    at_open t m None = grows-none ss fetched
    at_open t m (Some job) = on t m job (is_running job) t.listing refl

    by : (o : Option SourceState) → with_open_job ss id ≡ o
        → Grows ss 0 (sources_after (on_job Already (listed items unnamed) o).entries ss)
    by None is = grows-none ss fetched
    by (Some t) is =
        at_open t (IsIn-find (λ (s : SourceState). option_map_or (λ (j : Job). bytes_eq (id_of_job j) id) (open_job s) false)
        t ss is).0 (open_job t)

-- What a catalogue that is read tells, and leaves.
record Read (c : CatalogueRead) (ss after : List SourceState) : Type 0 where
  pub grows : Grows ss 0 after
  pub told : told_in (report_of c.answer) ≡ cond (failed_to_read c) 1 0

-- A job that began breaks.
broken-is : (st : HarvestState) (id url : List ℕ) (cause : Cause) → AreSources st.sources
    → (b : Begun st.sources id url (on_job Nothing begun (find has_new st.sources)).entries)
    → on_job Already (broken cause) (with_open_job (after_step Begin st).sources id)
    ≡ record {
      entries = PutJob (in_state (state.Broken cause) (in_state state.Running b.job)) ∷ [];
      reply = Ended (blank_report b.job.source (state.Broken cause));
    }
broken-is st id url cause fit b =
    ap (on_job Already (broken cause))
    (open-found (after_step Begin st).sources (begun_source b.job b.at) running id (fit-after Begin st fit) there opens
    b.named)
    ∙ ap (λ (o : Option Job). option_map_or (broken cause (begun_source b.job b.at)) o (idle Already)) opens
    ∙ ap (λ (l : Option Listing). cond (not (is_some l)) (record {
      entries = PutJob (in_state (state.Broken cause) running) ∷ [];
      reply = Ended (blank_report b.job.source (state.Broken cause));
    }) (idle Already)) (new-unlisted b.at b.job (has_jobs st.sources fit b.at b.there) b.opens b.new)
  where
    running : Job
    running = in_state state.Running b.job

    opens : open_job (begun_source b.job b.at) ≡ Some running
    opens = open-replaced b.at b.job running (has_jobs st.sources fit b.at b.there) b.opens refl

    there : IsIn (begun_source b.job b.at) (after_step Begin st).sources
    there =
        subst (IsIn (begun_source b.job b.at))
        (sym (ap (λ (entries : List SourceEntry). sources_after entries st.sources) b.put))
        (there-at st.sources b.at b.job.source (with_job running)
        (sym (job_named b.at b.job (has_jobs st.sources fit b.at b.there) b.opens)) b.there)

grows-on : (ss ts us : List SourceState) (n m : ℕ) → Grows ss n ts → Grows ts m us → Grows ss (n + m) us
grows-on ss ts us n m one two =
    let first = one.count in
    let second = two.count in
    record { fetched = two.fetched; count = omega (arith, first, second) }

grows-then : (ss ts us : List SourceState) (n : ℕ) → Grows ss 0 ts → Grows ts n us → Grows ss n us
grows-then ss ts us n one two =
    let first = one.count in
    let second = two.count in
    record { fetched = two.fetched; count = omega (arith, first, second) }

catalogue-read : (documents : Documents) (c : CatalogueRead) (st : HarvestState) → AreSources st.sources
    → AllFetched st.sources → AreAnswered (steps_of_catalogue c) st → IsCatalogueOf (Some documents) c
    → Read c st.sources (state_after (steps_of_catalogue c) st).sources
catalogue-read documents c st fit fetched answered is =
    let w = by c.read is.1 answered.1.0 in record { grows = w.0; told = w.1 }
  where
    one : Grows st.sources 0 (after_step Begin st).sources
    one = begin-grows st.sources fetched

    by : (read : Result Catalogue Cause) → read ≡ catalogue_at documents is.0 c.url
        → c.answer ≡ (change_of_step (step_of_catalogue c.job read) (after_step Begin st)).reply
        → Grows st.sources 0 (after_step (step_of_catalogue c.job read) (after_step Begin st)).sources
        × (told_in (report_of c.answer) ≡ cond (has_failed_catalogue read) 1 0)
    by (Ok catalogue) at reply = (
      grows-then st.sources (after_step Begin st).sources
          (after_step (list c.job catalogue.items catalogue.unnamed) (after_step Begin st)).sources 0 one
          (list-grows (after_step Begin st).sources c.job catalogue.items catalogue.unnamed (fit-after Begin st fit)
          one.fetched (catalogue-fetched documents is.0 c.url catalogue (sym at))),
      ap told_in (ap report_of reply
          ∙ reports-none (list c.job catalogue.items catalogue.unnamed) (after_step Begin st) (λ m. m)),
    )
    by (Err cause) at reply =
        let b = begun-job st.sources c.job c.url answered.0 in
        let broke = broken-is st c.job c.url cause fit b in (
          grows-then st.sources (after_step Begin st).sources
              (after_step (Break c.job cause) (after_step Begin st)).sources 0 one
              (subst (λ (p : Stepped). Grows (after_step Begin st).sources 0
              (sources_after p.entries (after_step Begin st).sources)) (sym broke)
              (grows-job b.job.source (in_state (state.Broken cause) (in_state state.Running b.job))
              (after_step Begin st).sources one.fetched)),
          ap told_in (ap report_of (reply ∙ ap (λ (p : Stepped). p.reply) broke))
              ∙ broken_told (is_read_fault cause),
        )
      where
        broken_told : (b : Bool) → cond b 1 0 + 0 ≡ cond b 1 0
        broken_told true = refl
        broken_told false = refl

pub catalogues-tell : (documents : Documents) (cs : List CatalogueRead) (st : HarvestState) → AreSources st.sources
    → AllFetched st.sources → AreAnswered (flat_map steps_of_catalogue cs) st
    → ((c : CatalogueRead) → IsIn c cs → IsCatalogueOf (Some documents) c)
    → Grows st.sources 0 (state_after (flat_map steps_of_catalogue cs) st).sources
    × (sum_by failures_in (reports_of_catalogues cs) ≡ count_by failed_to_read cs)
catalogues-tell documents [] st fit fetched answered each = (grows-none st.sources fetched, refl)
catalogues-tell documents (c ∷ cs) st fit fetched answered each =
    let next : HarvestState = state_after (steps_of_catalogue c) st in
    let one = catalogue-read documents c st fit fetched (answered.0, (answered.1.0, tt)) (each c (inl refl)) in
    let rest = catalogues-tell documents cs next
    (fit-after (step_of_catalogue c.job c.read) (after_step Begin st) (fit-after Begin st fit)) one.grows.fetched
    answered.1.1 (λ d m. each d (inr m)) in
    let first = sum-option failures_in (report_of c.answer) (reports_of_catalogues cs) in
    let all = sum_by-cons (λ (x : CatalogueRead). cond (failed_to_read x) 1 0) c cs in
    let told = one.told in
    let more = rest.1 in (
      grows-then st.sources next.sources (state_after (flat_map steps_of_catalogue cs) next).sources 0 one.grows rest.0,
      omega (arith, first, all, told, more),
    )

-- ---- objects

claim-one : (ss : List SourceState) (t : SourceState) (l : Listing) (item : Item) → AreSources ss → AllFetched ss
    → IsIn t ss → t.listing ≡ Some l → first_waiting l ≡ Some item
    → Grows ss 0 (with_source_at t.source.name (with_listing (Some (with_progress item.iri (Claimed item.found) l))) ss)
claim-one ss t l item fit fetched m is first =
    let lists = fetched t m l is in
    let waiting = waiting-listed lists.0 l item lists.2 first in
    let was : failure_count t ≡ failures_of l = ap (λ (o : Option Listing). option_map_or failures_of o 0) is in
    let now = claimed-failures l item (ascending_listing t l (has_jobs ss fit t m) is) first in
    grows-listing ss t (with_progress item.iri (Claimed item.found) l) 0 fit m fetched
    (lists.0, lists.1, items-claimed lists.0 l item lists.2 waiting) (omega (arith, was, now))

-- A claim adds no failed fetch.
pub claim-grows : (ss : List SourceState) → AreSources ss → AllFetched ss
    → Grows ss 0 (sources_after (on_job Nothing claimed (find waits ss)).entries ss)
claim-grows ss fit fetched = by (find waits ss) refl
  where
    at_item : (t : SourceState) (job : Job) (l : Listing) → IsIn t ss → t.listing ≡ Some l → (o : Option Item)
        → first_waiting l ≡ o
        → Grows ss 0 (sources_after (option_map_or (claimed_in t job l) o (idle Nothing)).entries ss)
    at_item t job l m is None first = grows-none ss fetched
    at_item t job l m is (Some item) first =
        claim-one ss t l item fit fetched m is first

    at_listing : (t : SourceState) (job : Job) → IsIn t ss → (l : Option Listing) → t.listing ≡ l
        → Grows ss 0 (sources_after (claimed_from t job l).entries ss)
    at_listing t job m None is = grows-none ss fetched
    at_listing t job m (Some l) is = at_item t job l m is (first_waiting l) refl

    at_open : (t : SourceState) → IsIn t ss → (o : Option Job)
        → Grows ss 0 (sources_after (option_map_or (claimed t) o (idle Nothing)).entries ss)
    at_open t m None = grows-none ss fetched
    at_open t m (Some job) = at_listing t job m t.listing refl

    by : (o : Option SourceState) → find waits ss ≡ o
        → Grows ss 0 (sources_after (on_job Nothing claimed o).entries ss)
    by None is = grows-none ss fetched
    by (Some t) is = at_open t (IsIn-find waits t ss is).0 (open_job t)

-- by whether the object was described in its catalogue
flag-is : (found : Found) (reading : Reading) → IsAsClaimed found reading
    → ((r : Reading) → found ≡ Here r → has_failed_object r ≡ false) → has_failed_object reading ≡ has_failed_at found reading
flag-is (Here r) reading claimed good = ap has_failed_object claimed ∙ good r refl
flag-is Elsewhere reading claimed good = refl

failure-of : (reading : Reading) → is_failure (cause_in reading) ≡ has_failed_object reading
failure-of (Good r) = refl
failure-of (Bad cause) = refl

object-grows : (documents : Documents) (o : ObjectSettled) (st : HarvestState) → AreSources st.sources
    → AllFetched st.sources → AreAnswered (steps_of_object o) st → IsReadingOf (Some documents) o
    → Grows st.sources (cond (failed_to_settle o) 1 0) (state_after (steps_of_object o) st).sources
object-grows documents o st fit fetched answered is =
    grows-then st.sources one (state_after (steps_of_object o) st).sources (cond (failed_to_settle o) 1 0) grown
    (subst (λ (p : Stepped). Grows one (cond (failed_to_settle o) 1 0) (sources_after p.entries one)) (sym settled-is)
    (subst (λ (ss : List SourceState). Grows ss (cond (failed_to_settle o) 1 0)
    (with_source_at c.at.source.name (with_listing (Some settled_l)) ss)) (sym same) settled_grows))
  where
    one : List SourceState
    one = (after_step Claim st).sources

    c : ClaimedOne st.sources o.job o.item (on_job Nothing claimed (find waits st.sources)).entries
    c = claimed-one st.sources o.job o.item answered.0

    claimed_l : Listing
    claimed_l = with_progress o.item.iri (Claimed o.item.found) c.listing

    came : Outcome
    came = outcome_of o.reading (effect_of (Settle o.job o.item.iri o.reading) (after_step Claim st))

    settled_l : Listing
    settled_l = with_progress o.item.iri (is_done_as came) claimed_l

    t : SourceState
    t = with_listing (Some claimed_l) c.at

    among : List SourceState
    among = with_source_at c.at.source.name (with_listing (Some claimed_l)) st.sources

    same : one ≡ among
    same = ap (λ (entries : List SourceEntry). sources_after entries st.sources) c.put

    fit_one : AreSources one
    fit_one = fit-after Claim st fit

    fit_among : AreSources among
    fit_among = subst AreSources same fit_one

    there : IsIn t among
    there = there-at st.sources c.at c.at.source.name (with_listing (Some claimed_l)) refl c.there

    claim_among : Grows st.sources 0 among
    claim_among = claim-one st.sources c.at c.listing o.item fit fetched c.there c.listed_so c.waiting

    grown : Grows st.sources 0 one
    grown = subst (Grows st.sources 0) (sym same) claim_among

    lists : IsFetched c.listing
    lists = fetched c.at c.there c.listing c.listed_so

    waiting : IsIn o.item lists.0
    waiting = waiting-listed lists.0 c.listing o.item lists.2 c.waiting

    weight : ◌≡◌ {A = ℕ} (cond (is_failure (cause_of came)) 1 0) (cond (failed_to_settle o) 1 0)
    weight =
        ap (λ (b : Bool). cond b 1 0)
        (ap is_failure (outcome-cause o.reading (effect_of (Settle o.job o.item.iri o.reading) (after_step Claim st)))
        ∙ failure-of o.reading
        ∙ flag-is o.item.found o.reading is.claimed (lists.1 o.item waiting))

    settled_grows : Grows among (cond (failed_to_settle o) 1 0)
        (with_source_at c.at.source.name (with_listing (Some settled_l)) among)
    settled_grows =
        grows-listing among t settled_l (cond (failed_to_settle o) 1 0) fit_among there claim_among.fetched (
          lists.0,
          lists.1,
          items-settled lists.0 claimed_l o.item.iri came
              (items-claimed lists.0 c.listing o.item lists.2 waiting),
        )
        (settled-failures claimed_l o.item.iri came
        (ascending_listing t claimed_l (has_jobs among fit_among t there) refl)
        (claimed-unsettled c.listing o.item.iri o.item.found)
        ∙ ap (λ (n : ℕ). failures_of claimed_l + n) weight)

    settled-is : on_job Already (settled o.item.iri came) (with_open_job one o.job)
        ≡ record {
          entries = PutListing c.at.source.name (Some settled_l) ∷ [];
          reply = Done;
        }
    settled-is =
        ap (on_job Already (settled o.item.iri came))
        (ap (λ (ss : List SourceState). with_open_job ss o.job) same
        ∙ open-found among t c.job o.job fit_among there c.opens c.named)
        ∙ ap (λ (p : Option Job). option_map_or (settled o.item.iri came t) p (idle Already)) c.opens
        ∙ ap (λ b. cond b (record {
          entries = PutListing c.at.source.name (Some settled_l) ∷ [];
          reply = Done;
        }) (idle Already)) (claimed-unsettled c.listing o.item.iri o.item.found)

pub objects-grow : (documents : Documents) (os : List ObjectSettled) (st : HarvestState) → AreSources st.sources
    → AllFetched st.sources → AreAnswered (flat_map steps_of_object os) st
    → ((o : ObjectSettled) → IsIn o os → IsReadingOf (Some documents) o)
    → Grows st.sources (count_by failed_to_settle os) (state_after (flat_map steps_of_object os) st).sources
objects-grow documents [] st fit fetched answered each = grows-none st.sources fetched
objects-grow documents (o ∷ os) st fit fetched answered each =
    let next : HarvestState = state_after (steps_of_object o) st in
    let one = object-grows documents o st fit fetched (answered.0, (answered.1.0, tt)) (each o (inl refl)) in
    let rest = objects-grow documents os next
    (fit-after (Settle o.job o.item.iri o.reading) (after_step Claim st) (fit-after Claim st fit)) one.fetched
    answered.1.1 (λ p m. each p (inr m)) in
    subst (λ (n : ℕ). Grows st.sources n (state_after (flat_map steps_of_object (o ∷ os)) st).sources)
    (sym (sum_by-cons (λ (x : ObjectSettled). cond (failed_to_settle x) 1 0) o os))
    (grows-on st.sources next.sources (state_after (flat_map steps_of_object os) next).sources
    (cond (failed_to_settle o) 1 0) (count_by failed_to_settle os) one rest)
