-- The stages of a round: its catalogues are listed, and its objects are settled.
use Rattle.std.proofs.Common.{◌≡◌, ◌∙◌, ℕ, Bool, true, false, not, cond, List, [], ◌∷◌, map, Option, Some, None, Result, Ok}
use Rattle.std.proofs.Common.{Err, refl, sym, ap, subst, inl, inr, true≢false}
use Rattle.std.specs.Prelude.{find, is_some, option_and_then, option_map}
use Rattle.std.specs.List.{filter_map, flat_map, list_all}
use Rattle.std.specs.Option.{option_map_or}
use Rattle.portal_base.proofs.Unique.{IsIn}
use Rattle.packages.proofs.FindLemmas.{IsIn-find, IsIn-map, find-none, map-IsIn}
use Rattle.harvest_sources.specs.Entries.{PutJob, PutListing, SourceEntry, sources_after, with_job, with_listing}
use Rattle.harvest_sources.specs.Entries.{with_source_at}
use Rattle.harvest_sources.specs.Jobs.{blank_report, id_of_job, in_state, is_new, is_open, is_running}
use Rattle.harvest_sources.specs.Listings.{first_waiting, is_done, listing_of, with_progress}
use Rattle.harvest_sources.specs.Sources.{AreSources, HasItsJobs, SourceState, is_listed, open_job}
use Rattle.harvest_sources.specs.Steps.{begun, broken, claimed, claimed_from, claimed_in, has_new, idle, listed, on_job}
use Rattle.harvest_sources.specs.Steps.{open_ids, outcome_of, renewals, renewed, renewed_with, settled, waiting_of}
use Rattle.harvest_sources.specs.Steps.{with_open_job, Stepped}
use Rattle.harvest_sources.specs.declared.cause.Cause.{Cause}
use Rattle.harvest_sources.specs.declared.job.Job.{Job}
use Rattle.harvest_sources.specs.declared.job.JobState.TheVariants as state
use Rattle.harvest_sources.specs.declared.listing.Listing.{Listing}
use Rattle.harvest_sources.specs.declared.listing.Outcome.{Outcome}
use Rattle.harvest_sources.specs.declared.listing.Progress.TheVariants.{Claimed, Done as is_done_as}
use Rattle.harvest_sources.specs.declared.step.Item.{Item}
use Rattle.harvest_sources.specs.declared.step.Step.TheVariants.{NewRound, Begin, Claim, Settle}
use Rattle.harvest_sources.specs.declared.step.StepReply.{StepReply}
use Rattle.harvest_sources.specs.declared.step.StepReply.TheVariants.{Gather, Object, Nothing, Done, Ended, Already}
use Rattle.harvest_results.specs.Effects.{HarvestState, after_step, change_of_step, effect_of}
use Rattle.harvest_results.proofs.PhaseLemmas.{has_jobs}
use Rattle.harvest_results.proofs.SourceEntryLemmas.{job_named, open-replaced}
use Rattle.harvest_stages.proofs.StepLemmas.{all_renewed, renewed_source}
use Rattle.harvest_readings.specs.declared.catalogue.Catalogue.{Catalogue}
use Rattle.harvest_pool.specs.Made.{AreAnswered, Made, state_after}
use Rattle.harvest_pool.specs.Rounds.{CatalogueRead, ObjectSettled, Work, is_gather, is_object, step_of_catalogue}
use Rattle.harvest_pool.specs.Rounds.{steps_of_catalogue, steps_of_catalogues, steps_of_object, steps_of_objects, report_of}
use Rattle.harvest_pool.proofs.SourceLemmas.{IsIn-filter_map, Each, EachBut, NoneClaimed, OfOpen, Owed, after-append}
use Rattle.harvest_pool.proofs.SourceLemmas.{all-done, answered-parts, but-at, claimed-unsettled, done-free, each-at}
use Rattle.harvest_pool.proofs.SourceLemmas.{fit-after, listed-free, new-unlisted, of-none, of-open, open-found, open-new}
use Rattle.harvest_pool.proofs.SourceLemmas.{owed-open, owed-told, released-free, there-at}
use Rattle.harvest_sources.specs.declared.job.SourceReport.{SourceReport}
use Rattle.harvest_results.proofs.ResultLemmas.{filter_map-IsIn}

-- ---- the stages of a round

-- After the beginning of a round: an open job is new and not listed, or it is listed and none of its objects is claimed.
abbrev pub Ready : Option Listing → Job → Type 0
Ready None job = is_new job ≡ true
Ready (Some l) job = NoneClaimed l

-- once all catalogues are listed
abbrev pub Listed : Option Listing → Type 0
Listed None = ⊥
Listed (Some l) = NoneClaimed l

-- once all objects are settled
abbrev pub Settled : Option Listing → Type 0
Settled None = ⊥
Settled (Some l) = list_all is_done l.objects ≡ true

module _ (ids : List (List ℕ)) where
  abbrev pub ReadyJob : Option Listing → Job → Type 0
  ReadyJob l job = IsIn (id_of_job job) ids × Ready l job

  abbrev pub ListedJob : Option Listing → Job → Type 0
  ListedJob l job = IsIn (id_of_job job) ids × Listed l

  abbrev pub SettledJob : Option Listing → Job → Type 0
  SettledJob l job = IsIn (id_of_job job) ids × Settled l

  abbrev pub IsReady : SourceState → Type 0
  IsReady s = OfOpen ReadyJob s

  abbrev pub HasListed : SourceState → Type 0
  HasListed s = OfOpen ListedJob s

  abbrev pub HasSettled : SourceState → Type 0
  HasSettled s = OfOpen SettledJob s

-- The sources have their jobs, each is at this stage, and each of the names has an open job or is told.
pub record Stage (names told : List (List ℕ)) (P : SourceState → Type 0) (st : HarvestState) : Type 0 where
  pub fit : AreSources st.sources
  pub each : Each P st.sources
  pub owed : Owed names told st.sources

-- ---- a new round

-- The open job of a source is the same after its renewal, which may make it new again.
renewed-job : (s : SourceState) (job : Job) → HasItsJobs s → open_job s ≡ Some job
    → (next : Job) × (open_job (renewed s) ≡ Some next) × (id_of_job next ≡ id_of_job job) × Ready (renewed s).listing next
renewed-job s job fit opens =
    subst (λ (o : Option Job). (next : Job) × (open_job (renewed_with s s.listing o) ≡ Some next)
    × (id_of_job next ≡ id_of_job job) × Ready (renewed_with s s.listing o).listing next) (sym opens)
    (by s.listing refl)
  where
    running : s.listing ≡ None → (b : Bool) → is_running job ≡ b
        → (next : Job) × (open_job (cond b (with_job (in_state state.New job) s) s) ≡ Some next)
        × (id_of_job next ≡ id_of_job job) × Ready (cond b (with_job (in_state state.New job) s) s).listing next
    running none true runs = (
      in_state state.New job,
      open-replaced s job (in_state state.New job) fit opens refl,
      refl,
      subst (λ (l : Option Listing). Ready l (in_state state.New job)) (sym none) refl,
    )
    running none false runs = (
      job,
      opens,
      refl,
      subst (λ (l : Option Listing). Ready l job) (sym none)
          (open-new job.report.state (IsIn-find is_open job s.jobs opens).1 runs),
    )

    by : (l : Option Listing) → s.listing ≡ l
        → (next : Job) × (open_job (renewed_with s l (Some job)) ≡ Some next)
        × (id_of_job next ≡ id_of_job job) × Ready (renewed_with s l (Some job)).listing next
    by (Some listing) is = (job, opens, refl, released-free listing)
    by None is = running is (is_running job) refl

renewed-none : (s : SourceState) → open_job s ≡ None → renewed s ≡ s
renewed-none s none = ap (renewed_with s s.listing) none ∙ by s.listing
  where
    by : (l : Option Listing) → renewed_with s l None ≡ s
    by None = refl
    by (Some listing) = refl

renewed-ready : (ids : List (List ℕ)) (s : SourceState) → HasItsJobs s
    → ((job : Job) → open_job s ≡ Some job → IsIn (id_of_job job) ids) → IsReady ids (renewed s)
renewed-ready ids s fit among = by (open_job s) refl
  where
    by : (o : Option Job) → open_job s ≡ o → IsReady ids (renewed s)
    by None none =
        of-none (ReadyJob ids) (renewed s) (ap open_job (renewed-none s none) ∙ none)
    by (Some job) opens =
        let w = renewed-job s job fit opens in
        of-open (ReadyJob ids) (renewed s) w.0 w.1
        (subst (λ (id : List ℕ). IsIn id ids) (sym w.2) (among job opens), w.3)

-- the names of the sources that have an open job
abbrev pub open_name : SourceState → Option (List ℕ)
open_name s = option_map (λ (job : Job). s.source.name) (open_job s)

abbrev pub open_names : List SourceState → List (List ℕ)
open_names ss = filter_map open_name ss

open_name-parts : (s : SourceState) (name : List ℕ) → open_name s ≡ Some name
    → (s.source.name ≡ name) × ((job : Job) × (open_job s ≡ Some job))
open_name-parts s name is = by (open_job s) refl is
  where
    by : (o : Option Job) → open_job s ≡ o → option_map (λ (job : Job). s.source.name) o ≡ Some name
        → (s.source.name ≡ name) × ((job : Job) × (open_job s ≡ Some job))
    by None opens e = absurd (cc)
    by (Some job) opens e = (cc, (job, opens))

pub round-ready : (told : List (List ℕ)) (st : HarvestState) → AreSources st.sources
    → Stage (open_names st.sources) told (IsReady (open_ids st.sources)) (after_step NewRound st)
round-ready told st fit = record {
  fit = fit-after NewRound st fit;
  each = subst (Each (IsReady (open_ids st.sources))) (sym same) each;
  owed = subst (Owed (open_names st.sources) told) (sym same) owed;
}
  where
    same : sources_after (flat_map renewals st.sources) st.sources ≡ map renewed st.sources
    same = all_renewed st.sources fit.ascending (λ s m. has_jobs st.sources fit s m)

    each : Each (IsReady (open_ids st.sources)) (map renewed st.sources)
    each z n =
        let w = map-IsIn renewed z st.sources n in
        subst (IsReady (open_ids st.sources)) (sym w.2)
        (renewed-ready (open_ids st.sources) w.0 (has_jobs st.sources fit w.0 w.1)
        (λ job opens. IsIn-filter_map (λ (s : SourceState). option_map id_of_job (open_job s)) (id_of_job job) w.0
        st.sources w.1 (ap (option_map id_of_job) opens)))

    owed : Owed (open_names st.sources) told (map renewed st.sources)
    owed name among =
        let w = filter_map-IsIn open_name name st.sources among in
        let parts = open_name-parts w.0 name w.2 in
        let job = renewed-job w.0 parts.1.0 (has_jobs st.sources fit w.0 w.1) parts.1.1 in
        inl (
          renewed w.0,
          IsIn-map renewed w.0 st.sources w.1,
          ap (λ source. source.name) (renewed_source w.0) ∙ parts.0,
          (job.0, job.1),
        )

-- ---- a catalogue

-- a new job that begins, and the entry for it
pub record Begun (ss : List SourceState) (id url : List ℕ) (entries : List SourceEntry) : Type 0 where
  pub at : SourceState
  pub job : Job
  pub found : find has_new ss ≡ Some at
  pub location : url ≡ at.source.url
  pub there : IsIn at ss
  pub new : has_new at ≡ true
  pub opens : open_job at ≡ Some job
  pub named : id_of_job job ≡ id
  pub put : entries ≡ PutJob (in_state state.Running job) ∷ []

pub begun-job : (ss : List SourceState) (id url : List ℕ)
    → Gather id url ≡ (on_job Nothing begun (find has_new ss)).reply
    → Begun ss id url (on_job Nothing begun (find has_new ss)).entries
begun-job ss id url e = by (find has_new ss) refl e
  where
    at_open : (t : SourceState) → find has_new ss ≡ Some t → (o : Option Job) → open_job t ≡ o
        → Gather id url ≡ (option_map_or (begun t) o (idle Nothing)).reply
        → Begun ss id url (option_map_or (begun t) o (idle Nothing)).entries
    at_open t is None opens e = absurd (cc)
    at_open t is (Some job) opens e =
        let there = IsIn-find has_new t ss is in
        let named : id ≡ id_of_job job = cc in
        let location : url ≡ t.source.url = cc in
        record {
          at = t;
          job = job;
          found = is;
          location = location;
          there = there.0;
          new = there.1;
          opens = opens;
          named = sym named;
          put = refl;
        }

    by : (o : Option SourceState) → find has_new ss ≡ o → Gather id url ≡ (on_job Nothing begun o).reply
        → Begun ss id url (on_job Nothing begun o).entries
    by None is e = absurd (cc)
    by (Some t) is e = at_open t is (open_job t) refl e

abbrev pub begun_source : Job → SourceState → SourceState
begun_source job t = with_job (in_state state.Running job) t

abbrev pub begun_among : Job → List SourceState → List SourceState
begun_among job ss = with_source_at job.source (with_job (in_state state.Running job)) ss

-- A new job that begins, and is listed or broken.
module _ (names told ids : List (List ℕ)) (ss : List SourceState) (fit : AreSources ss) (each : Each (IsReady ids) ss)
    (owed : Owed names told ss) (t : SourceState) (job : Job) (id : List ℕ) (m : IsIn t ss) (new : has_new t ≡ true)
    (opens : open_job t ≡ Some job) (named : id_of_job job ≡ id) where
  name : job.source ≡ t.source.name
  name = job_named t job (has_jobs ss fit t m) opens

  there_begun : IsIn (begun_source job t) (begun_among job ss)
  there_begun = there-at ss t job.source (with_job (in_state state.Running job)) (sym name) m

  opens_begun : open_job (begun_source job t) ≡ Some (in_state state.Running job)
  opens_begun = open-replaced t job (in_state state.Running job) (has_jobs ss fit t m) opens refl

  unlisted : is_listed t ≡ false
  unlisted = ap is_some (new-unlisted t job (has_jobs ss fit t m) opens new)

  others : EachBut t.source.name (IsReady ids) (begun_among job ss)
  others =
      subst (λ (n : List ℕ). EachBut t.source.name (IsReady ids)
      (with_source_at n (with_job (in_state state.Running job)) ss)) (sym name)
      (but-at (IsReady ids) ss t.source.name (with_job (in_state state.Running job)) (λ s. refl)
      (λ s n apart. each s n))

  owed_begun : Owed names told (begun_among job ss)
  owed_begun =
      subst (λ (n : List ℕ). Owed names told (with_source_at n (with_job (in_state state.Running job)) ss)) (sym name)
      (owed-open names told ss t (with_job (in_state state.Running job)) (in_state state.Running job) (λ s. refl) m
      opens_begun owed)

  module _ (fit_begun : AreSources (begun_among job ss)) where
    found_begun : with_open_job (begun_among job ss) id ≡ Some (begun_source job t)
    found_begun =
        open-found (begun_among job ss) (begun_source job t) (in_state state.Running job) id fit_begun there_begun
        opens_begun named

    -- what the step that lists the catalogue does
    listed-is : (items : List Item) (unnamed : ℕ)
        → on_job Already (listed items unnamed) (with_open_job (begun_among job ss) id)
        ≡ record {
          entries = PutListing t.source.name (Some (listing_of t.source.name items unnamed)) ∷ [];
          reply = Done;
        }
    listed-is items unnamed =
        ap (on_job Already (listed items unnamed)) found_begun
        ∙ ap (λ (o : Option Job). option_map_or (listed items unnamed (begun_source job t)) o (idle Already)) opens_begun
        ∙ ap (λ b. cond (not b) (record {
          entries = PutListing t.source.name (Some (listing_of t.source.name items unnamed)) ∷ [];
          reply = Done;
        }) (idle Already)) unlisted

    broken-is : (cause : Cause)
        → on_job Already (broken cause) (with_open_job (begun_among job ss) id)
        ≡ record {
          entries = PutJob (in_state (state.Broken cause) (in_state state.Running job)) ∷ [];
          reply = Ended (blank_report job.source (state.Broken cause));
        }
    broken-is cause =
        ap (on_job Already (broken cause)) found_begun
        ∙ ap (λ (o : Option Job). option_map_or (broken cause (begun_source job t)) o (idle Already)) opens_begun
        ∙ ap (λ b. cond (not b) (record {
          entries = PutJob (in_state (state.Broken cause) (in_state state.Running job)) ∷ [];
          reply = Ended (blank_report job.source (state.Broken cause));
        }) (idle Already)) unlisted

    each-listed : (items : List Item) (unnamed : ℕ) → Each (IsReady ids)
        (with_source_at t.source.name (with_listing (Some (listing_of t.source.name items unnamed))) (begun_among job ss))
    each-listed items unnamed =
        each-at (IsReady ids) (begun_among job ss) (begun_source job t)
        (with_listing (Some (listing_of t.source.name items unnamed))) fit_begun there_begun others
        (of-open (ReadyJob ids)
        (with_listing (Some (listing_of t.source.name items unnamed)) (begun_source job t))
        (in_state state.Running job) opens_begun
        ((each t m job opens).0, listed-free t.source.name items unnamed))

    owed-listed : (items : List Item) (unnamed : ℕ) → Owed names told
        (with_source_at t.source.name (with_listing (Some (listing_of t.source.name items unnamed))) (begun_among job ss))
    owed-listed items unnamed =
        owed-open names told (begun_among job ss) (begun_source job t)
        (with_listing (Some (listing_of t.source.name items unnamed))) (in_state state.Running job) (λ s. refl)
        there_begun opens_begun owed_begun

    abbrev broken_job : Cause → Job
    broken_job cause = in_state (state.Broken cause) (in_state state.Running job)

    each-broken : (cause : Cause) → Each (IsReady ids)
        (with_source_at job.source (with_job (broken_job cause)) (begun_among job ss))
    each-broken cause =
        subst (λ (n : List ℕ). Each (IsReady ids) (with_source_at n (with_job (broken_job cause)) (begun_among job ss)))
        (sym name)
        (each-at (IsReady ids) (begun_among job ss) (begun_source job t) (with_job (broken_job cause)) fit_begun
        there_begun others
        (of-none (ReadyJob ids) (with_job (broken_job cause) (begun_source job t))
        (open-replaced (begun_source job t) (in_state state.Running job) (broken_job cause)
        (has_jobs (begun_among job ss) fit_begun (begun_source job t) there_begun) opens_begun refl)))

    owed-broken : (cause : Cause) → IsIn job.source told → Owed names told
        (with_source_at job.source (with_job (broken_job cause)) (begun_among job ss))
    owed-broken cause said =
        subst (λ (n : List ℕ). Owed names told (with_source_at n (with_job (broken_job cause)) (begun_among job ss)))
        (sym name)
        (owed-told names told (begun_among job ss) (begun_source job t) (with_job (broken_job cause))
        (subst (λ (n : List ℕ). IsIn n told) name said) owed_begun)

-- the report of the answer, if it has one, is of a source that is told
abbrev pub Tells : List (List ℕ) → StepReply → Type 0
Tells told answer = (report : SourceReport) → report_of answer ≡ Some report → IsIn report.source told

-- A catalogue that is read leaves the sources ready.
catalogue-ready : (names told ids : List (List ℕ)) (c : CatalogueRead) (st : HarvestState)
    → Stage names told (IsReady ids) st → AreAnswered (steps_of_catalogue c) st → Tells told c.answer
    → Stage names told (IsReady ids) (state_after (steps_of_catalogue c) st)
catalogue-ready names told ids c st stage answered tells = record {
  fit = fit-after (step_of_catalogue c.job c.read) (after_step Begin st) (fit-after Begin st stage.fit);
  each = (by c.read answered.1.0).0;
  owed = (by c.read answered.1.0).1;
}
  where
    b : Begun st.sources c.job c.url (on_job Nothing begun (find has_new st.sources)).entries
    b = begun-job st.sources c.job c.url answered.0

    same : (after_step Begin st).sources ≡ begun_among b.job st.sources
    same = ap (λ (entries : List SourceEntry). sources_after entries st.sources) b.put

    fit_begun : AreSources (begun_among b.job st.sources)
    fit_begun = subst AreSources same (fit-after Begin st stage.fit)

    by : (read : Result Catalogue Cause)
        → c.answer ≡ (change_of_step (step_of_catalogue c.job read) (after_step Begin st)).reply
        → Each (IsReady ids) (after_step (step_of_catalogue c.job read) (after_step Begin st)).sources
        × Owed names told (after_step (step_of_catalogue c.job read) (after_step Begin st)).sources
    by (Ok catalogue) is =
        subst (λ (ss : List SourceState). Each (IsReady ids) (sources_after
        (on_job Already (listed catalogue.items catalogue.unnamed) (with_open_job ss c.job)).entries ss)
        × Owed names told (sources_after
        (on_job Already (listed catalogue.items catalogue.unnamed) (with_open_job ss c.job)).entries ss)) (sym same)
        (subst (λ (p : Stepped). Each (IsReady ids) (sources_after p.entries (begun_among b.job st.sources))
        × Owed names told (sources_after p.entries (begun_among b.job st.sources)))
        (sym (listed-is names told ids st.sources stage.fit stage.each stage.owed b.at b.job c.job b.there b.new b.opens
        b.named fit_begun catalogue.items catalogue.unnamed)) (
          each-listed names told ids st.sources stage.fit stage.each stage.owed b.at b.job c.job b.there b.new b.opens
              b.named fit_begun catalogue.items catalogue.unnamed,
          owed-listed names told ids st.sources stage.fit stage.each stage.owed b.at b.job c.job b.there b.new b.opens
              b.named fit_begun catalogue.items catalogue.unnamed,
        ))
    by (Err cause) is =
        let broken_now = broken-is names told ids st.sources stage.fit stage.each stage.owed b.at b.job c.job b.there
        b.new b.opens b.named fit_begun cause in
        let said : IsIn b.job.source told = tells (blank_report b.job.source (state.Broken cause))
        (ap report_of (is
        ∙ ap (λ (ss : List SourceState). (on_job Already (broken cause) (with_open_job ss c.job)).reply) same
        ∙ ap (λ (p : Stepped). p.reply) broken_now)) in
        subst (λ (ss : List SourceState). Each (IsReady ids) (sources_after
        (on_job Already (broken cause) (with_open_job ss c.job)).entries ss)
        × Owed names told (sources_after (on_job Already (broken cause) (with_open_job ss c.job)).entries ss)) (sym same)
        (subst (λ (p : Stepped). Each (IsReady ids) (sources_after p.entries (begun_among b.job st.sources))
        × Owed names told (sources_after p.entries (begun_among b.job st.sources))) (sym broken_now) (
          each-broken names told ids st.sources stage.fit stage.each stage.owed b.at b.job c.job b.there b.new b.opens
              b.named fit_begun cause,
          owed-broken names told ids st.sources stage.fit stage.each stage.owed b.at b.job c.job b.there b.new b.opens
              b.named fit_begun cause said,
        ))

-- the answers for these catalogues tell of sources that are told
abbrev pub AllTell : List (List ℕ) → List CatalogueRead → Type 0
AllTell told cs = (c : CatalogueRead) → IsIn c cs → Tells told c.answer

catalogues-ready : (names told ids : List (List ℕ)) (cs : List CatalogueRead) (st : HarvestState)
    → Stage names told (IsReady ids) st → AreAnswered (flat_map steps_of_catalogue cs) st → AllTell told cs
    → Stage names told (IsReady ids) (state_after (flat_map steps_of_catalogue cs) st)
catalogues-ready names told ids [] st stage answered tell = stage
catalogues-ready names told ids (c ∷ cs) st stage answered tell =
    catalogues-ready names told ids cs (state_after (steps_of_catalogue c) st)
    (catalogue-ready names told ids c st stage (answered.0, (answered.1.0, tt)) (tell c (inl refl))) answered.1.1
    (λ d m. tell d (inr m))

-- Once no job is new, each open job is listed.
none-new : (names told ids : List (List ℕ)) (last : StepReply) (st : HarvestState)
    → Stage names told (IsReady ids) st → last ≡ (on_job Nothing begun (find has_new st.sources)).reply
    → is_gather last ≡ false → Stage names told (HasListed ids) (after_step Begin st)
none-new names told ids last st stage answered stops = record {
  fit = fit-after Begin st stage.fit;
  each = (by (find has_new st.sources) refl (sym (ap is_gather answered) ∙ stops)).0;
  owed = (by (find has_new st.sources) refl (sym (ap is_gather answered) ∙ stops)).1;
}
  where
    listed_now : (s : SourceState) → IsIn s st.sources → has_new s ≡ false → HasListed ids s
    listed_now s m old job opens = by s.listing (stage.each s m job opens)
      where
        by : (l : Option Listing) → IsIn (id_of_job job) ids × Ready l job → IsIn (id_of_job job) ids × Listed l
        by None ready =
            absurd (true≢false (sym ready.1
            ∙ sym (ap (λ (o : Option Job). option_map_or is_new o false) opens) ∙ old))
        by (Some listing) ready = ready

    at_open : (t : SourceState) → has_new t ≡ true → (o : Option Job) → open_job t ≡ o
        → is_gather (option_map_or (begun t) o (idle Nothing)).reply ≡ false → ⊥
    at_open t new None opens e =
        true≢false (sym new ∙ ap (λ (o : Option Job). option_map_or is_new o false) opens)
    at_open t new (Some job) opens e = true≢false e

    by : (o : Option SourceState) → find has_new st.sources ≡ o → is_gather (on_job Nothing begun o).reply ≡ false
        → Each (HasListed ids) (sources_after (on_job Nothing begun o).entries st.sources)
        × Owed names told (sources_after (on_job Nothing begun o).entries st.sources)
    by None is e = (λ s m. listed_now s m (find-none has_new s st.sources is m), stage.owed)
    by (Some t) is e = absurd (at_open t (IsIn-find has_new t st.sources is).1 (open_job t) refl e)

-- ---- an object

-- the source has a waiting object
abbrev pub waits : SourceState → Bool
waits s = is_some (waiting_of s)

-- an object that is claimed, and the entry for it
pub record ClaimedOne (ss : List SourceState) (id : List ℕ) (item : Item) (entries : List SourceEntry) : Type 0 where
  pub at : SourceState
  pub job : Job
  pub listing : Listing
  pub there : IsIn at ss
  pub opens : open_job at ≡ Some job
  pub named : id_of_job job ≡ id
  pub listed_so : at.listing ≡ Some listing
  pub found : find waits ss ≡ Some at
  pub waiting : first_waiting listing ≡ Some item
  pub put : entries
      ≡ PutListing at.source.name (Some (with_progress item.iri (Claimed item.found) listing)) ∷ []

pub claimed-one : (ss : List SourceState) (id : List ℕ) (item : Item)
    → Object id item ≡ (on_job Nothing claimed (find waits ss)).reply
    → ClaimedOne ss id item (on_job Nothing claimed (find waits ss)).entries
claimed-one ss id item e = by (find waits ss) refl e
  where
    at_item : (t : SourceState) → find waits ss ≡ Some t → (job : Job) → open_job t ≡ Some job → (l : Listing)
        → t.listing ≡ Some l → (o : Option Item) → first_waiting l ≡ o
        → Object id item ≡ (option_map_or (claimed_in t job l) o (idle Nothing)).reply
        → ClaimedOne ss id item (option_map_or (claimed_in t job l) o (idle Nothing)).entries
    at_item t found job opens l is None first e = absurd (cc)
    at_item t found job opens l is (Some other) first e =
        let named : id ≡ id_of_job job = cc in
        let same : item ≡ other = cc in
        record {
          at = t;
          job = job;
          listing = l;
          there = (IsIn-find waits t ss found).0;
          opens = opens;
          named = sym named;
          listed_so = is;
          found = found;
          waiting = first ∙ ap Some (sym same);
          put = ap (λ (i : Item). PutListing t.source.name (Some (with_progress i.iri (Claimed i.found) l)) ∷ [])
              (sym same);
        }

    at_listing : (t : SourceState) → find waits ss ≡ Some t → (job : Job) → open_job t ≡ Some job
        → (l : Option Listing) → t.listing ≡ l → Object id item ≡ (claimed_from t job l).reply
        → ClaimedOne ss id item (claimed_from t job l).entries
    at_listing t found job opens None is e = absurd (cc)
    at_listing t found job opens (Some l) is e = at_item t found job opens l is (first_waiting l) refl e

    at_open : (t : SourceState) → find waits ss ≡ Some t → (o : Option Job) → open_job t ≡ o
        → Object id item ≡ (option_map_or (claimed t) o (idle Nothing)).reply
        → ClaimedOne ss id item (option_map_or (claimed t) o (idle Nothing)).entries
    at_open t found None opens e = absurd (cc)
    at_open t found (Some job) opens e = at_listing t found job opens t.listing refl e

    by : (o : Option SourceState) → find waits ss ≡ o → Object id item ≡ (on_job Nothing claimed o).reply
        → ClaimedOne ss id item (on_job Nothing claimed o).entries
    by None is e = absurd (cc)
    by (Some t) is e = at_open t is (open_job t) refl e

abbrev claimed_source : Item → Listing → SourceState → SourceState
claimed_source item l t = with_listing (Some (with_progress item.iri (Claimed item.found) l)) t

abbrev claimed_among : SourceState → Item → Listing → List SourceState → List SourceState
claimed_among t item l ss =
    with_source_at t.source.name (with_listing (Some (with_progress item.iri (Claimed item.found) l))) ss

-- the listing with the object settled
abbrev settled_listing : Item → Outcome → Listing → Listing
settled_listing item came l = with_progress item.iri (is_done_as came) (with_progress item.iri (Claimed item.found) l)

-- An object that is claimed and settled leaves the sources listed.
module _ (names told ids : List (List ℕ)) (ss : List SourceState) (fit : AreSources ss)
    (each : Each (HasListed ids) ss) (owed : Owed names told ss) (t : SourceState) (job : Job) (l : Listing)
    (id : List ℕ) (item : Item) (m : IsIn t ss) (opens : open_job t ≡ Some job) (named : id_of_job job ≡ id)
    (is : t.listing ≡ Some l) where
  there_claimed : IsIn (claimed_source item l t) (claimed_among t item l ss)
  there_claimed =
      there-at ss t t.source.name (with_listing (Some (with_progress item.iri (Claimed item.found) l))) refl m

  others_listed : EachBut t.source.name (HasListed ids) (claimed_among t item l ss)
  others_listed =
      but-at (HasListed ids) ss t.source.name (with_listing (Some (with_progress item.iri (Claimed item.found) l)))
      (λ s. refl) (λ s n apart. each s n)

  free : NoneClaimed l
  free = subst Listed is (each t m job opens).1

  settled-is : AreSources (claimed_among t item l ss) → (came : Outcome)
      → on_job Already (settled item.iri came) (with_open_job (claimed_among t item l ss) id)
      ≡ record {
        entries = PutListing t.source.name (Some (settled_listing item came l)) ∷ [];
        reply = Done;
      }
  settled-is fit_claimed came =
      ap (on_job Already (settled item.iri came))
      (open-found (claimed_among t item l ss) (claimed_source item l t) job id fit_claimed there_claimed opens named)
      ∙ ap (λ (o : Option Job). option_map_or (settled item.iri came (claimed_source item l t)) o (idle Already)) opens
      ∙ ap (λ b. cond b (record {
        entries = PutListing t.source.name (Some (settled_listing item came l)) ∷ [];
        reply = Done;
      }) (idle Already)) (claimed-unsettled l item.iri item.found)

  each-settled : AreSources (claimed_among t item l ss) → (came : Outcome) → Each (HasListed ids)
      (with_source_at t.source.name (with_listing (Some (settled_listing item came l))) (claimed_among t item l ss))
  each-settled fit_claimed came =
      each-at (HasListed ids) (claimed_among t item l ss) (claimed_source item l t)
      (with_listing (Some (settled_listing item came l))) fit_claimed there_claimed others_listed
      (of-open (ListedJob ids)
      (with_listing (Some (settled_listing item came l)) (claimed_source item l t)) job opens
      ((each t m job opens).0, done-free l item.iri item.found came free))

  owed-settled : (came : Outcome) → Owed names told
      (with_source_at t.source.name (with_listing (Some (settled_listing item came l))) (claimed_among t item l ss))
  owed-settled came =
      owed-open names told (claimed_among t item l ss) (claimed_source item l t)
      (with_listing (Some (settled_listing item came l))) job (λ s. refl) there_claimed opens
      (owed-open names told ss t (with_listing (Some (with_progress item.iri (Claimed item.found) l))) job (λ s. refl) m
      opens owed)

object-listed : (names told ids : List (List ℕ)) (o : ObjectSettled) (st : HarvestState)
    → Stage names told (HasListed ids) st → AreAnswered (steps_of_object o) st
    → Stage names told (HasListed ids) (state_after (steps_of_object o) st)
object-listed names told ids o st stage answered = record {
  fit = fit-after (Settle o.job o.item.iri o.reading) (after_step Claim st) (fit-after Claim st stage.fit);
  each = (by (outcome_of o.reading (effect_of (Settle o.job o.item.iri o.reading) (after_step Claim st)))).0;
  owed = (by (outcome_of o.reading (effect_of (Settle o.job o.item.iri o.reading) (after_step Claim st)))).1;
}
  where
    c : ClaimedOne st.sources o.job o.item (on_job Nothing claimed (find waits st.sources)).entries
    c = claimed-one st.sources o.job o.item answered.0

    same : (after_step Claim st).sources ≡ claimed_among c.at o.item c.listing st.sources
    same = ap (λ (entries : List SourceEntry). sources_after entries st.sources) c.put

    fit_claimed : AreSources (claimed_among c.at o.item c.listing st.sources)
    fit_claimed = subst AreSources same (fit-after Claim st stage.fit)

    by : (came : Outcome) → Each (HasListed ids) (sources_after
        (on_job Already (settled o.item.iri came) (with_open_job (after_step Claim st).sources o.job)).entries
        (after_step Claim st).sources)
        × Owed names told (sources_after
        (on_job Already (settled o.item.iri came) (with_open_job (after_step Claim st).sources o.job)).entries
        (after_step Claim st).sources)
    by came =
        subst (λ (ss : List SourceState). Each (HasListed ids) (sources_after
        (on_job Already (settled o.item.iri came) (with_open_job ss o.job)).entries ss)
        × Owed names told (sources_after
        (on_job Already (settled o.item.iri came) (with_open_job ss o.job)).entries ss)) (sym same)
        (subst (λ (p : Stepped).
        Each (HasListed ids) (sources_after p.entries (claimed_among c.at o.item c.listing st.sources))
        × Owed names told (sources_after p.entries (claimed_among c.at o.item c.listing st.sources)))
        (sym (settled-is names told ids st.sources stage.fit stage.each stage.owed c.at c.job c.listing o.job o.item
        c.there c.opens c.named c.listed_so fit_claimed came)) (
          each-settled names told ids st.sources stage.fit stage.each stage.owed c.at c.job c.listing o.job o.item
              c.there c.opens c.named c.listed_so fit_claimed came,
          owed-settled names told ids st.sources stage.fit stage.each stage.owed c.at c.job c.listing o.job o.item
              c.there c.opens c.named c.listed_so came,
        ))

objects-listed : (names told ids : List (List ℕ)) (os : List ObjectSettled) (st : HarvestState)
    → Stage names told (HasListed ids) st → AreAnswered (flat_map steps_of_object os) st
    → Stage names told (HasListed ids) (state_after (flat_map steps_of_object os) st)
objects-listed names told ids [] st stage answered = stage
objects-listed names told ids (o ∷ os) st stage answered =
    objects-listed names told ids os (state_after (steps_of_object o) st)
    (object-listed names told ids o st stage (answered.0, (answered.1.0, tt))) answered.1.1

-- Once no object waits, each listed job is settled.
none-waits : (names told ids : List (List ℕ)) (last : StepReply) (st : HarvestState)
    → Stage names told (HasListed ids) st → last ≡ (on_job Nothing claimed (find waits st.sources)).reply
    → is_object last ≡ false → Stage names told (HasSettled ids) (after_step Claim st)
none-waits names told ids last st stage answered stops = record {
  fit = fit-after Claim st stage.fit;
  each = (by (find waits st.sources) refl (sym (ap is_object answered) ∙ stops)).0;
  owed = (by (find waits st.sources) refl (sym (ap is_object answered) ∙ stops)).1;
}
  where
    settled_now : (s : SourceState) → IsIn s st.sources → waits s ≡ false → HasSettled ids s
    settled_now s m idle_now job opens = by s.listing idle_now (stage.each s m job opens)
      where
        by : (l : Option Listing) → is_some (option_and_then first_waiting l) ≡ false
            → IsIn (id_of_job job) ids × Listed l → IsIn (id_of_job job) ids × Settled l
        by None none listed_so = absurd listed_so.1
        by (Some listing) none listed_so = (listed_so.0, all-done listing listed_so.1 none)

    at_item : (t : SourceState) (job : Job) (l : Listing) (o : Option Item) → is_some o ≡ true
        → is_object (option_map_or (claimed_in t job l) o (idle Nothing)).reply ≡ false → ⊥
    at_item t job l None some e = true≢false (sym some)
    at_item t job l (Some item) some e = true≢false e

    at_listing : (t : SourceState) (job : Job) (l : Option Listing) → is_some (option_and_then first_waiting l) ≡ true
        → is_object (claimed_from t job l).reply ≡ false → ⊥
    at_listing t job None some e = true≢false (sym some)
    at_listing t job (Some l) some e = at_item t job l (first_waiting l) some e

    unopened : (t : SourceState) → IsIn t st.sources → open_job t ≡ None → (l : Option Listing) → t.listing ≡ l
        → is_some (option_and_then first_waiting l) ≡ true → ⊥
    unopened t m opens None is some = true≢false (sym some)
    unopened t m opens (Some l) is some =
        true≢false (sym ((has_jobs st.sources stage.fit t m).runs (ap is_some is))
        ∙ ap (λ (o : Option Job). option_map_or is_running o false) opens)

    at_open : (t : SourceState) → IsIn t st.sources → waits t ≡ true → (o : Option Job) → open_job t ≡ o
        → is_object (option_map_or (claimed t) o (idle Nothing)).reply ≡ false → ⊥
    at_open t m some None opens e = unopened t m opens t.listing refl some
    at_open t m some (Some job) opens e = at_listing t job t.listing some e

    by : (o : Option SourceState) → find waits st.sources ≡ o → is_object (on_job Nothing claimed o).reply ≡ false
        → Each (HasSettled ids) (sources_after (on_job Nothing claimed o).entries st.sources)
        × Owed names told (sources_after (on_job Nothing claimed o).entries st.sources)
    by None is e = (λ s m. settled_now s m (find-none waits s st.sources is m), stage.owed)
    by (Some t) is e =
        let there = IsIn-find waits t st.sources is in
        absurd (at_open t there.0 there.1 (open_job t) refl e)

-- All catalogues are read.
pub catalogues-listed : (names told ids : List (List ℕ)) (work : Work CatalogueRead) (st : HarvestState)
    → Stage names told (IsReady ids) st → AreAnswered (steps_of_catalogues work) st → AllTell told work.done
    → is_gather work.last ≡ false → Stage names told (HasListed ids) (state_after (steps_of_catalogues work) st)
catalogues-listed names told ids work st stage answered tell stops =
    let begin : List Made = record { step = Begin; answer = work.last } ∷ [] in
    let parts = answered-parts (flat_map steps_of_catalogue work.done) begin st answered in
    subst (Stage names told (HasListed ids)) (sym (after-append (flat_map steps_of_catalogue work.done) begin st))
    (none-new names told ids work.last (state_after (flat_map steps_of_catalogue work.done) st)
    (catalogues-ready names told ids work.done st stage parts.0 tell) parts.1.0 stops)

-- All objects are settled.
pub objects-settled : (names told ids : List (List ℕ)) (work : Work ObjectSettled) (st : HarvestState)
    → Stage names told (HasListed ids) st → AreAnswered (steps_of_objects work) st → is_object work.last ≡ false
    → Stage names told (HasSettled ids) (state_after (steps_of_objects work) st)
objects-settled names told ids work st stage answered stops =
    let claim : List Made = record { step = Claim; answer = work.last } ∷ [] in
    let parts = answered-parts (flat_map steps_of_object work.done) claim st answered in
    subst (Stage names told (HasSettled ids)) (sym (after-append (flat_map steps_of_object work.done) claim st))
    (none-waits names told ids work.last (state_after (flat_map steps_of_object work.done) st)
    (objects-listed names told ids work.done st stage parts.0) parts.1.0 stops)
