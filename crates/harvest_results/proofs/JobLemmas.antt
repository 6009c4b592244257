-- A job from its beginning to its end, and what it leaves.
use Rattle.std.proofs.Common.{◌≡◌, ℕ, Bool, true, false, not, ◌&&◌, cond, List, [], ◌∷◌, length, Option, Some, None}
use Rattle.std.proofs.Common.{refl, sym, ap}
use Rattle.std.proofs.Common.{◌∙◌, subst, true≢false}
use Rattle.std.specs.Prelude.{IsTrue, filter, is_some, option_map}
use Rattle.std.specs.List.{find, list_all}
use Rattle.std.specs.Option.{option_map_or}
use Rattle.std.specs.Str.{bytes_eq}
use Rattle.std.proofs.lemmas.Bool.{and_parts}
use Rattle.std.proofs.lemmas.Slice.Eq.{bytes_eq-Decides}
use Rattle.portal_base.specs.Ordered.{IsAscending}
use Rattle.portal_base.proofs.Filtered.{IsAscending-filter, IsIn-filter}
use Rattle.portal_base.proofs.Unique.{Contains-IsIn, IsIn}
use Rattle.packages.specs.Order.{dataset_cmp}
use Rattle.packages.specs.declared.package.Package.{Package}
use Rattle.packages.proofs.FindLemmas.{IsIn-find}
use Rattle.harvest_records.specs.Names.{harvested_name}
use Rattle.harvest_sources.specs.Entries.{PutJob, PutListing, with_job}
use Rattle.harvest_sources.specs.Jobs.{blank_report, id_of_job, in_state, is_new, is_new_state, is_running}
use Rattle.harvest_sources.specs.Jobs.{is_running_state}
use Rattle.harvest_sources.specs.Jobs.{job_id, with_report}
use Rattle.harvest_sources.specs.Listings.{finished_report, is_done}
use Rattle.harvest_sources.specs.Sources.{HasItsJobs, SourceState, is_listed, open_job}
use Rattle.harvest_sources.specs.Steps.{Stepped, begun, broken, count_deleted, ended, ended_with, has_new, idle, on_job}
use Rattle.harvest_sources.specs.Steps.{with_open_job}
use Rattle.harvest_sources.specs.declared.cause.Cause.{Cause}
use Rattle.harvest_sources.specs.declared.job.Job.{Job}
use Rattle.harvest_sources.specs.declared.job.JobState.{JobState}
use Rattle.harvest_sources.specs.declared.job.JobState.TheVariants as state
use Rattle.harvest_sources.specs.declared.job.SourceReport.{SourceReport}
use Rattle.harvest_sources.specs.declared.listing.Listing.{Listing}
use Rattle.harvest_sources.specs.declared.source.HarvestSource.{HarvestSource}
use Rattle.harvest_sources.specs.declared.step.Step.TheVariants.{Begin, Break, End}
use Rattle.harvest_sources.specs.declared.step.StepReply.TheVariants.{Nothing, Ended, Already}
use Rattle.harvest_results.specs.Counts.{Counts, bad_of, counts_in, counts_of}
use Rattle.harvest_results.specs.Effects.{HarvestState, after_step, change_of_step, effect_of, gone_from, gone_of}
use Rattle.harvest_sources.specs.Steps.{is_accepted}
use Rattle.harvest_results.specs.Effects.{is_of_source, is_unlisted, with_put, without}
use Rattle.harvest_results.specs.Histories.{AStep, Gathered, HarvestEvent, IsFit, IsHarvest, IsHistory, KeepsItsNames}
use Rattle.harvest_results.specs.Histories.{NeverBegins, Other}
use Rattle.harvest_results.specs.Histories.{begins, datasets_of, end_of, gathered, gathers_for, nothing_gathered}
use Rattle.harvest_results.specs.Histories.{reading_of}
use Rattle.harvest_results.specs.Histories.{source_of_job, with_event}
use Rattle.harvest_results.specs.Readings.{is_whole}
use Rattle.harvest_results.specs.Results.{datasets_after, datasets_afresh}
use Rattle.harvest_results.proofs.ChangeLemmas.{gone-own, lists, without-none}
use Rattle.harvest_results.proofs.EndingLemmas.{IsAscending-by_name, settled-after}
use Rattle.harvest_results.proofs.HistoryLemmas.{step-holds}
use Rattle.harvest_results.proofs.JobIdLemmas.{job_id-source}
use Rattle.harvest_results.proofs.LookupLemmas.{name_cmp}
use Rattle.harvest_results.proofs.PhaseLemmas.{Holds, Over, Phase, Reads, Waits, after_of, has_jobs}
use Rattle.harvest_results.proofs.ReportLemmas.{added-same, bad-same, deleted-same, unchanged-same, updated-same}
use Rattle.harvest_results.proofs.ResultLemmas.{whole-same}
use Rattle.harvest_results.proofs.SettlingLemmas.{IsSettling}
use Rattle.harvest_results.proofs.SourceEntryLemmas.{job_named, named-changed, named-member, open-replaced}
use Rattle.harvest_results.proofs.SourceEntryLemmas.{same_source}

-- ---- the datasets of a source

IsAscending-datasets : (source : HarvestSource) (st : HarvestState) → IsFit source st
    → IsAscending name_cmp (datasets_of source st)
IsAscending-datasets source st fit =
    IsAscending-by_name (datasets_of source st)
    (λ d m. let there = IsIn-filter (is_of_source source.name) d st.datasets m in
    (fit.own d (Contains-IsIn d st.datasets there.0) ((bytes_eq-Decides d.source source.name).0 there.1)).id_is_name)
    (IsAscending-filter dataset_cmp (is_of_source source.name) st.datasets fit.ascending)

-- ---- the beginning

-- The source whose open job has the id, with the job.
owner : (source : HarvestSource) (id : List ℕ) (sources : List SourceState) → source_of_job sources id ≡ Some source
    → (u : SourceState) × (job : Job) × IsIn u sources × (open_job u ≡ Some job) × (id_of_job job ≡ id)
    × (u.source ≡ source)
owner source id sources is = by (with_open_job sources id) refl is
  where
    at_open : (u : SourceState) → IsIn u sources → u.source ≡ source → (o : Option Job) → open_job u ≡ o
        → option_map_or (λ (j : Job). bytes_eq (id_of_job j) id) o false ≡ true
        → (v : SourceState) × (job : Job) × IsIn v sources × (open_job v ≡ Some job) × (id_of_job job ≡ id)
        × (v.source ≡ source)
    at_open u m own None opens e = absurd (true≢false (sym e))
    at_open u m own (Some job) opens e = (u, job, m, opens, (bytes_eq-Decides (id_of_job job) id).0 e, own)

    by : (o : Option SourceState) → with_open_job sources id ≡ o
        → option_map (λ (s : SourceState). s.source) o ≡ Some source
        → (u : SourceState) × (job : Job) × IsIn u sources × (open_job u ≡ Some job) × (id_of_job job ≡ id)
        × (u.source ≡ source)
    by None found e = absurd (cc)
    by (Some u) found e =
        let there = IsIn-find (λ (s : SourceState). option_map_or (λ (j : Job). bytes_eq (id_of_job j) id) (open_job s)
        false) u sources found in
        let own : u.source ≡ source = cc in
        at_open u there.0 own (open_job u) refl there.1

not_both : (s : JobState) → is_new_state s ≡ true → is_running_state s ≡ true → ⊥
not_both state.New a b = absurd (true≢false (sym b))
not_both state.Running a b = absurd (true≢false (sym a))
not_both state.Finished a b = absurd (true≢false (sym a))
not_both (state.Broken cause) a b = absurd (true≢false (sym a))

-- A source with a new job has no listing.
new-unlisted : (t : SourceState) (job : Job) → HasItsJobs t → open_job t ≡ Some job → has_new t ≡ true
    → t.listing ≡ None
new-unlisted t job fit opens new = by t.listing refl
  where
    by : (l : Option Listing) → t.listing ≡ l → l ≡ None
    by None is = refl
    by (Some listing) is =
        let runs : is_running job ≡ true =
        sym (ap (λ (o : Option Job). option_map_or is_running o false) opens) ∙ fit.runs (ap is_some is) in
        let waits : is_new job ≡ true =
        sym (ap (λ (o : Option Job). option_map_or is_new o false) opens) ∙ new in
        absurd (not_both job.report.state waits runs)

-- the number of the job that begins, and how far the job is
record Beginning (sure : Type 0) (source : HarvestSource) (id : List ℕ) (before : HarvestState) : Type 0 where
  pub number : ℕ
  pub is_id : id ≡ job_id source.name number
  pub holds : Holds sure id source (datasets_of source before) nothing_gathered (after_step Begin before)

start : (sure : Type 0) (source : HarvestSource) (id : List ℕ) (before : HarvestState) → IsFit source before
    → begins id before Begin ≡ true → source_of_job before.sources id ≡ Some source → Beginning sure source id before
start sure source id before fit begun_so of_source =
    let u = owner source id before.sources of_source in
    let jobs = has_jobs before.sources fit.sources in
    let name : u.0.source.name ≡ source.name = ap (λ (s : HarvestSource). s.name) u.5 in
    let number : ℕ = u.1.number in
    let is_id : id ≡ job_id source.name number =
    sym u.4 ∙ ap (λ (n : List ℕ). job_id n number) (job_named u.0 u.1 (jobs u.0 u.2) u.3 ∙ name) in
    record { number = number; is_id = is_id; holds = holds u.0 u.2 name u.5 number is_id }
  where
    on : (u : SourceState) → IsIn u before.sources → u.source.name ≡ source.name → u.source ≡ source → (number : ℕ)
        → id ≡ job_id source.name number → (t : SourceState) → find has_new before.sources ≡ Some t → (job : Job)
        → open_job t ≡ Some job → id_of_job job ≡ id
        → Holds sure id source (datasets_of source before) nothing_gathered (after_of (begun t job) None [] before)
    on u m name own number is_id t is job opens named =
        let there = IsIn-find has_new t before.sources is in
        let jobs = has_jobs before.sources fit.sources t there.0 in
        let named_t : t.source.name ≡ source.name =
        sym (job_named t job jobs opens)
        ∙ job_id-source job.source source.name job.number number (named ∙ is_id) in
        let same : t ≡ u = same_source before.sources source.name u t fit.sources
        (named-member before.sources source.name u fit.sources m name) there.0 named_t in
        record {
          at = with_job (in_state state.Running job) t;
          named =
              named-changed source.name job.source (with_job (in_state state.Running job)) before.sources t (λ s. refl)
              (named-member before.sources source.name t fit.sources there.0 named_t)
              (job_named t job jobs opens ∙ named_t);
          own = ap (λ (s : SourceState). s.source) same ∙ own;
          phase =
              Waits (in_state state.Running job)
              (open-replaced t job (in_state state.Running job) jobs opens refl) named
              (new-unlisted t job jobs opens there.1) refl
              (ap (filter (is_of_source source.name)) (without-none before.datasets));
        }

    at_open : (u : SourceState) → IsIn u before.sources → u.source.name ≡ source.name → u.source ≡ source
        → (number : ℕ) → id ≡ job_id source.name number → (t : SourceState) → find has_new before.sources ≡ Some t
        → (o : Option Job) → open_job t ≡ o → gathers_for id (option_map_or (begun t) o (idle Nothing)).reply ≡ true
        → Holds sure id source (datasets_of source before) nothing_gathered
        (after_of (option_map_or (begun t) o (idle Nothing)) None [] before)
    at_open u m name own number is_id t is None opens e = absurd (true≢false (sym e))
    at_open u m name own number is_id t is (Some job) opens e =
        on u m name own number is_id t is job opens ((bytes_eq-Decides (id_of_job job) id).0 e)

    holds : (u : SourceState) → IsIn u before.sources → u.source.name ≡ source.name → u.source ≡ source
        → (number : ℕ) → id ≡ job_id source.name number
        → Holds sure id source (datasets_of source before) nothing_gathered (after_step Begin before)
    holds u m name own number is_id = by (find has_new before.sources) refl begun_so
      where
        by : (o : Option SourceState) → find has_new before.sources ≡ o
            → gathers_for id (on_job Nothing begun o).reply ≡ true
            → Holds sure id source (datasets_of source before) nothing_gathered
            (after_of (on_job Nothing begun o) None [] before)
        by None is e = absurd (true≢false (sym e))
        by (Some t) is e = at_open u m name own number is_id t is (open_job t) refl e

-- ---- the history

holds-through : (sure : Type 0) (id : List ℕ) (source : HarvestSource) (old : List Package) (number : ℕ)
    → id ≡ job_id source.name number → (history : List (HarvestEvent × HarvestState)) (g : Gathered) (st : HarvestState)
    → IsFit source st → Holds sure id source old g st → IsHistory source st history → NeverBegins id st history
    → (sure → KeepsItsNames source st history)
    → IsFit source (end_of st history) × Holds sure id source old (gathered id st history g) (end_of st history)
holds-through sure id source old number is_id [] g st fit h events never alone = (fit, h)
holds-through sure id source old number is_id ((AStep step, after) ∷ rest) g st fit h events never alone =
    let next : Holds sure id source old (with_event id st (AStep step) g) (after_step step st) =
    step-holds sure id source old number is_id g st fit h (λ s. (alone s).0) step never.0
    (subst (IsFit source) events.1 events.0) in
    holds-through sure id source old number is_id rest (with_event id st (AStep step) g) after events.0
    (subst (Holds sure id source old (with_event id st (AStep step) g)) (sym events.1) next) events.2 never.1
    (λ s. (alone s).1)
holds-through sure id source old number is_id ((Other, after) ∷ rest) g st fit h events never alone =
    holds-through sure id source old number is_id rest g after events.0
    (record {
      at = h.at;
      named = events.1.0 ∙ h.named;
      own = h.own;
      phase = subst (Phase sure id source old g h.at) (sym events.1.1) h.phase;
    }) events.2 never (λ s. (alone s).1)

-- ---- the end

filter-and : {X : Type 0} (p q : X → Bool) (xs : List X) → filter (λ x. p x && q x) xs ≡ filter q (filter p xs)
filter-and p q [] = refl
filter-and {X} p q (x ∷ xs) = by (p x) (q x) refl (filter-and p q xs)
  where
    by : (a b : Bool) → q x ≡ b → filter (λ y. p y && q y) xs ≡ filter q (filter p xs)
        → cond (a && b) (x ∷ filter (λ y. p y && q y) xs) (filter (λ y. p y && q y) xs)
        ≡ filter q (cond a (x ∷ filter p xs) (filter p xs))
    by true true is e =
        ap (λ l. x ∷ l) e ∙ sym (ap (λ c. cond c (x ∷ filter q (filter p xs)) (filter q (filter p xs))) is)
    by true false is e = e ∙ sym (ap (λ c. cond c (x ∷ filter q (filter p xs)) (filter q (filter p xs))) is)
    by false b is e = e

-- The report is that on a listing whose objects are all done, and what is dropped is what isn't listed.
record EndedWith (sure : Type 0) (source : HarvestSource) (old : List Package) (g : Gathered) (st : HarvestState)
    (deleted : ℕ) (gone : List Package) (report : SourceReport) : Type 0 where
  pub listing : Listing
  pub source_name : List ℕ
  pub is : report ≡ finished_report source_name listing deleted
  pub so : IsSettling sure source old g listing (datasets_of source st)
  pub done : list_all is_done listing.objects ≡ true
  pub dropped : length gone ≡ length (filter (λ (d : Package). not (lists listing d.iri)) (datasets_of source st))

module _ (sure : Type 0) (id : List ℕ) (source : HarvestSource) (old : List Package) (number : ℕ)
    (is_id : id ≡ job_id source.name number) (g : Gathered) (st : HarvestState) (fit : IsFit source st)
    (h : Holds sure id source old g st) where
  -- the source of an open job of the id is the source
  is_at : (t : SourceState) (job : Job) → with_open_job st.sources id ≡ Some t → open_job t ≡ Some job → h.at ≡ t
  is_at t job is opens =
      let there = IsIn-find (λ (s : SourceState). option_map_or (λ (j : Job). bytes_eq (id_of_job j) id) (open_job s)
      false) t st.sources is in
      let named : id_of_job job ≡ id =
      (bytes_eq-Decides (id_of_job job) id).0
      (sym (ap (λ (o : Option Job). option_map_or (λ (j : Job). bytes_eq (id_of_job j) id) o false) opens) ∙ there.1) in
      sym (same_source st.sources source.name h.at t fit.sources h.named there.0
      (sym (job_named t job (has_jobs st.sources fit.sources t there.0) opens)
      ∙ job_id-source job.source source.name job.number number (named ∙ is_id)))

  own_end : (deleted : ℕ) (job : Job) → open_job h.at ≡ Some job → IsAscending name_cmp old
      → is_accepted (ended_with deleted h.at job h.at.listing).reply ≡ true
      → datasets_of source
      (after_of (ended_with deleted h.at job h.at.listing) None
      (gone_from h.at.source.name h.at.listing st.datasets) st)
      ≡ datasets_after old (reading_of source g)
  own_end deleted job opens up accepted = by h.at.listing refl accepted
    where
      name : h.at.source.name ≡ source.name
      name = ap (λ (s : HarvestSource). s.name) h.own

      own_names : (d : Package) → IsIn d (datasets_of source st)
          → d.name ≡ harvested_name source.name d.iri
      own_names d m =
          let there = IsIn-filter (is_of_source source.name) d st.datasets m in
          (fit.own d (Contains-IsIn d st.datasets there.0) ((bytes_eq-Decides d.source source.name).0 there.1)).named

      phase : (listing : Listing) → h.at.listing ≡ Some listing → list_all is_done listing.objects ≡ true
          → Phase sure id source old g h.at (datasets_of source st)
          → filter (is_of_source source.name)
          (without (filter (is_unlisted h.at.source.name listing) st.datasets) st.datasets)
          ≡ datasets_after old (reading_of source g)
      phase listing is done (Waits j opened named unlisted nothing same) = absurd (cc)
      phase listing is done (Reads j l opened named listed_so so) =
          let alike : l ≡ listing = cc in
          ap (λ (n : List ℕ). filter (is_of_source source.name)
          (without (filter (is_unlisted n listing) st.datasets) st.datasets)) name
          ∙ gone-own source listing st.datasets fit.ascending
          ∙ settled-after sure source old g listing (datasets_of source st)
          (subst (λ (m : Listing). IsSettling sure source old g m (datasets_of source st)) alike so) done up
          (IsAscending-datasets source st fit) own_names
      phase listing is done (Over none) = absurd (cc)

      p : Listing → Stepped
      p listing = record {
        entries =
            PutListing h.at.source.name None
            ∷ PutJob (with_report (finished_report job.source listing deleted) job) ∷ [];
        reply = Ended (finished_report job.source listing deleted);
      }

      at_end : (listing : Listing) → h.at.listing ≡ Some listing → (b : Bool) → list_all is_done listing.objects ≡ b
          → is_accepted (cond b (p listing) (idle Already)).reply ≡ true
          → datasets_of source
          (after_of (cond b (p listing) (idle Already)) None
          (filter (is_unlisted h.at.source.name listing) st.datasets) st)
          ≡ datasets_after old (reading_of source g)
      at_end listing is true done e = phase listing is done h.phase
      at_end listing is false done e = absurd (true≢false (sym e))

      by : (l : Option Listing) → h.at.listing ≡ l → is_accepted (ended_with deleted h.at job l).reply ≡ true
          → datasets_of source
          (after_of (ended_with deleted h.at job l) None (gone_from h.at.source.name l st.datasets) st)
          ≡ datasets_after old (reading_of source g)
      by None is e = absurd (true≢false (sym e))
      by (Some listing) is e = at_end listing is (list_all is_done listing.objects) refl e

  own_report : (deleted : ℕ) (job : Job) (report : SourceReport) → open_job h.at ≡ Some job
      → (ended_with deleted h.at job h.at.listing).reply ≡ Ended report
      → EndedWith sure source old g st deleted (gone_from h.at.source.name h.at.listing st.datasets) report
  own_report deleted job report opens reply = by h.at.listing refl reply
    where
      p : Listing → Stepped
      p listing = record {
        entries =
            PutListing h.at.source.name None
            ∷ PutJob (with_report (finished_report job.source listing deleted) job) ∷ [];
        reply = Ended (finished_report job.source listing deleted);
      }

      phase : (listing : Listing) → h.at.listing ≡ Some listing → list_all is_done listing.objects ≡ true
          → report ≡ finished_report job.source listing deleted
          → Phase sure id source old g h.at (datasets_of source st)
          → EndedWith sure source old g st deleted (filter (is_unlisted h.at.source.name listing) st.datasets) report
      phase listing is done same (Waits j opened named unlisted nothing alike) = absurd (cc)
      phase listing is done same (Reads j l opened named listed_so so) =
          let alike : l ≡ listing = cc in
          record {
            listing = listing;
            source_name = job.source;
            is = same;
            so = subst (λ (m : Listing). IsSettling sure source old g m (datasets_of source st)) alike so;
            done = done;
            dropped =
                ap (λ (n : List ℕ). length (filter (is_unlisted n listing) st.datasets))
                (ap (λ (s : HarvestSource). s.name) h.own)
                ∙ ap length (filter-and (is_of_source source.name) (λ (d : Package). not (lists listing d.iri))
                st.datasets);
          }
      phase listing is done same (Over none) = absurd (cc)

      at_end : (listing : Listing) → h.at.listing ≡ Some listing → (b : Bool) → list_all is_done listing.objects ≡ b
          → (cond b (p listing) (idle Already)).reply ≡ Ended report
          → EndedWith sure source old g st deleted (filter (is_unlisted h.at.source.name listing) st.datasets) report
      at_end listing is true done e =
          let same : report ≡ finished_report job.source listing deleted = cc in phase listing is done same h.phase
      at_end listing is false done e = absurd (cc)

      by : (l : Option Listing) → h.at.listing ≡ l → (ended_with deleted h.at job l).reply ≡ Ended report
          → EndedWith sure source old g st deleted (gone_from h.at.source.name l st.datasets) report
      by None is e = absurd (cc)
      by (Some listing) is e = at_end listing is (list_all is_done listing.objects) refl e

  end-report : (deleted : ℕ) (report : SourceReport)
      → (on_job Already (ended deleted) (with_open_job st.sources id)).reply ≡ Ended report
      → EndedWith sure source old g st deleted (gone_of (with_open_job st.sources id) st.datasets) report
  end-report deleted report reply = by (with_open_job st.sources id) refl reply
    where
      on : (t : SourceState) (job : Job) → h.at ≡ t → open_job t ≡ Some job → (ended deleted t job).reply ≡ Ended report
          → EndedWith sure source old g st deleted (gone_from t.source.name t.listing st.datasets) report
      on t job here opens e =
          (subst (λ (u : SourceState). (ended deleted u job).reply ≡ Ended report
          → EndedWith sure source old g st deleted (gone_from u.source.name u.listing st.datasets) report) here
          (own_report deleted job report (ap open_job here ∙ opens))) e

      at_open : (t : SourceState) → with_open_job st.sources id ≡ Some t → (o : Option Job) → open_job t ≡ o
          → (option_map_or (ended deleted t) o (idle Already)).reply ≡ Ended report
          → EndedWith sure source old g st deleted (gone_from t.source.name t.listing st.datasets) report
      at_open t is None opens e = absurd (cc)
      at_open t is (Some job) opens e = on t job (is_at t job is opens) opens e

      by : (o : Option SourceState) → with_open_job st.sources id ≡ o
          → (on_job Already (ended deleted) o).reply ≡ Ended report
          → EndedWith sure source old g st deleted (gone_of o st.datasets) report
      by None is e = absurd (cc)
      by (Some t) is e = at_open t is (open_job t) refl e

  pub end-leaves : (deleted : ℕ) → IsAscending name_cmp old
      → is_accepted (on_job Already (ended deleted) (with_open_job st.sources id)).reply ≡ true
      → datasets_of source
      (after_of (on_job Already (ended deleted) (with_open_job st.sources id)) None
      (gone_of (with_open_job st.sources id) st.datasets) st)
      ≡ datasets_after old (reading_of source g)
  end-leaves deleted up accepted = by (with_open_job st.sources id) refl accepted
    where
      on : (t : SourceState) (job : Job) → h.at ≡ t → open_job t ≡ Some job
          → is_accepted (ended deleted t job).reply ≡ true
          → datasets_of source
          (after_of (ended deleted t job) None (gone_from t.source.name t.listing st.datasets) st)
          ≡ datasets_after old (reading_of source g)
      on t job here opens e =
          (subst (λ (u : SourceState). is_accepted (ended deleted u job).reply ≡ true
          → datasets_of source
          (after_of (ended deleted u job) None (gone_from u.source.name u.listing st.datasets) st)
          ≡ datasets_after old (reading_of source g)) here
          (own_end deleted job (ap open_job here ∙ opens) up)) e

      at_open : (t : SourceState) → with_open_job st.sources id ≡ Some t → (o : Option Job) → open_job t ≡ o
          → is_accepted (option_map_or (ended deleted t) o (idle Already)).reply ≡ true
          → datasets_of source
          (after_of (option_map_or (ended deleted t) o (idle Already)) None
          (gone_from t.source.name t.listing st.datasets) st)
          ≡ datasets_after old (reading_of source g)
      at_open t is None opens e = absurd (true≢false (sym e))
      at_open t is (Some job) opens e = on t job (is_at t job is opens) opens e

      by : (o : Option SourceState) → with_open_job st.sources id ≡ o
          → is_accepted (on_job Already (ended deleted) o).reply ≡ true
          → datasets_of source (after_of (on_job Already (ended deleted) o) None (gone_of o st.datasets) st)
          ≡ datasets_after old (reading_of source g)
      by None is e = absurd (true≢false (sym e))
      by (Some t) is e = at_open t is (open_job t) refl e

  -- A job that breaks has read nothing.
  pub break-leaves : (cause : Cause)
      → is_accepted (on_job Already (broken cause) (with_open_job st.sources id)).reply ≡ true
      → datasets_of source st ≡ old
  break-leaves cause accepted = by (with_open_job st.sources id) refl accepted
    where
      phase : (t : SourceState) (job : Job) → h.at ≡ t → open_job t ≡ Some job → not (is_listed t) ≡ true
          → Phase sure id source old g h.at (datasets_of source st) → datasets_of source st ≡ old
      phase t job here opens free (Waits j opened named unlisted nothing same) = same
      phase t job here opens free (Reads j l opened named listed_so so) =
          let listed : is_listed t ≡ true = sym (ap is_listed here) ∙ ap is_some listed_so in
          absurd (true≢false (sym free ∙ ap not listed))
      phase t job here opens free (Over none) =
          let opened : open_job h.at ≡ Some job = ap open_job here ∙ opens in absurd (cc)

      p : Job → Stepped
      p job = record {
        entries = PutJob (in_state (state.Broken cause) job) ∷ [];
        reply = Ended (blank_report job.source (state.Broken cause));
      }

      on : (t : SourceState) (job : Job) → h.at ≡ t → open_job t ≡ Some job → (b : Bool)
          → (is_running job && not (is_listed t)) ≡ b
          → is_accepted (cond b (p job) (idle Already)).reply ≡ true → datasets_of source st ≡ old
      on t job here opens true is e =
          phase t job here opens (and_parts (is_running job) (not (is_listed t)) is).1 h.phase
      on t job here opens false is e = absurd (true≢false (sym e))

      at_open : (t : SourceState) → with_open_job st.sources id ≡ Some t → (o : Option Job) → open_job t ≡ o
          → is_accepted (option_map_or (broken cause t) o (idle Already)).reply ≡ true → datasets_of source st ≡ old
      at_open t is None opens e = absurd (true≢false (sym e))
      at_open t is (Some job) opens e =
          on t job (is_at t job is opens) opens (is_running job && not (is_listed t)) refl e

      by : (o : Option SourceState) → with_open_job st.sources id ≡ o
          → is_accepted (on_job Already (broken cause) o).reply ≡ true → datasets_of source st ≡ old
      by None is e = absurd (true≢false (sym e))
      by (Some t) is e = at_open t is (open_job t) refl e

-- ---- the laws

through : (sure : Type 0) (source : HarvestSource) (id : List ℕ) (before : HarvestState)
    (history : List (HarvestEvent × HarvestState)) (harvest : IsHarvest source id before history)
    → Beginning sure source id before → (sure → KeepsItsNames source (after_step Begin before) history)
    → IsFit source (end_of (after_step Begin before) history)
    × Holds sure id source (datasets_of source before)
    (gathered id (after_step Begin before) history nothing_gathered) (end_of (after_step Begin before) history)
through sure source id before history harvest s alone =
    holds-through sure id source (datasets_of source before) s.number s.is_id history nothing_gathered
    (after_step Begin before) harvest.fit_begun s.holds harvest.events harvest.once alone

pub ended-leaves : (source : HarvestSource) (id : List ℕ) (before : HarvestState)
    (history : List (HarvestEvent × HarvestState)) → IsHarvest source id before history
    → IsTrue (is_accepted (change_of_step (End id) (end_of (after_step Begin before) history)).reply)
    → datasets_of source (after_step (End id) (end_of (after_step Begin before) history))
    ≡ datasets_after (datasets_of source before)
    (reading_of source (gathered id (after_step Begin before) history nothing_gathered))
ended-leaves source id before history harvest accepted =
    let s = start ⊥ source id before harvest.fit harvest.begun harvest.of_source in
    let w = through ⊥ source id before history harvest s (λ none. absurd none) in
    let last : HarvestState = end_of (after_step Begin before) history in
    end-leaves ⊥ id source (datasets_of source before) s.number s.is_id
    (gathered id (after_step Begin before) history nothing_gathered) last w.0 w.1
    (count_deleted (effect_of (End id) last)) (IsAscending-datasets source before harvest.fit) accepted

pub broken-leaves : (source : HarvestSource) (id : List ℕ) (before : HarvestState)
    (history : List (HarvestEvent × HarvestState)) (cause : Cause) → IsHarvest source id before history
    → IsTrue (is_accepted (change_of_step (Break id cause) (end_of (after_step Begin before) history)).reply)
    → datasets_of source (after_step (Break id cause) (end_of (after_step Begin before) history))
    ≡ datasets_of source before
broken-leaves source id before history cause harvest accepted =
    let s = start ⊥ source id before harvest.fit harvest.begun harvest.of_source in
    let w = through ⊥ source id before history harvest s (λ none. absurd none) in
    let last : HarvestState = end_of (after_step Begin before) history in
    same last (is_accepted (change_of_step (Break id cause) last).reply)
    ∙ break-leaves ⊥ id source (datasets_of source before) s.number s.is_id
    (gathered id (after_step Begin before) history nothing_gathered) last w.0 w.1 cause accepted
  where
    same : (last : HarvestState) (b : Bool)
        → filter (is_of_source source.name) (without (cond b [] []) (with_put (cond b None None) last.datasets))
        ≡ datasets_of source last
    same last true = ap (filter (is_of_source source.name)) (without-none last.datasets)
    same last false = ap (filter (is_of_source source.name)) (without-none last.datasets)

pub whole-leaves : (source : HarvestSource) (id : List ℕ) (before : HarvestState)
    (history : List (HarvestEvent × HarvestState)) → IsHarvest source id before history
    → IsTrue (is_accepted (change_of_step (End id) (end_of (after_step Begin before) history)).reply)
    → IsTrue (is_whole (reading_of source (gathered id (after_step Begin before) history nothing_gathered)))
    → datasets_of source (after_step (End id) (end_of (after_step Begin before) history))
    ≡ datasets_afresh (reading_of source (gathered id (after_step Begin before) history nothing_gathered))
whole-leaves source id before history harvest accepted whole =
    ended-leaves source id before history harvest accepted
    ∙ whole-same (datasets_of source before)
    (reading_of source (gathered id (after_step Begin before) history nothing_gathered)) whole

-- ---- reports

own-names : (source : HarvestSource) (st : HarvestState) → IsFit source st → (d : Package)
    → IsIn d (datasets_of source st) → d.name ≡ harvested_name source.name d.iri
own-names source st fit d m =
    let there = IsIn-filter (is_of_source source.name) d st.datasets m in
    (fit.own d (Contains-IsIn d st.datasets there.0) ((bytes_eq-Decides d.source source.name).0 there.1)).named

alike : (c d : Counts) → c.added ≡ d.added → c.updated ≡ d.updated → c.unchanged ≡ d.unchanged → c.deleted ≡ d.deleted
    → c.unnamed ≡ d.unnamed → c ≡ d
alike c d added updated unchanged deleted unnamed =
    λ i. record {
      added = added i;
      updated = updated i;
      unchanged = unchanged i;
      deleted = deleted i;
      unnamed = unnamed i;
    }

pub report-counts : (source : HarvestSource) (id : List ℕ) (before : HarvestState)
    (history : List (HarvestEvent × HarvestState)) (report : SourceReport) → IsHarvest source id before history
    → KeepsItsNames source (after_step Begin before) history
    → (change_of_step (End id) (end_of (after_step Begin before) history)).reply ≡ Ended report
    → counts_in report
    ≡ counts_of (datasets_of source before)
    (reading_of source (gathered id (after_step Begin before) history nothing_gathered))
report-counts source id before history report harvest names reply =
    let s = start (Unit {0}) source id before harvest.fit harvest.begun harvest.of_source in
    let w = through (Unit {0}) source id before history harvest s (λ sure. names) in
    let last : HarvestState = end_of (after_step Begin before) history in
    let g : Gathered = gathered id (after_step Begin before) history nothing_gathered in
    let old : List Package = datasets_of source before in
    let e = end-report (Unit {0}) id source old s.number s.is_id g last w.0 w.1
    (count_deleted (effect_of (End id) last)) report reply in
    let up_old = IsAscending-datasets source before harvest.fit in
    let up = IsAscending-datasets source last w.0 in
    let named = own-names source last w.0 in
    let ds : List Package = datasets_of source last in
    ap counts_in e.is
    ∙ alike (counts_in (finished_report e.source_name e.listing (count_deleted (effect_of (End id) last))))
    (counts_of old (reading_of source g))
    (added-same (Unit {0}) source old g e.listing ds e.so e.done up_old up named tt)
    (updated-same (Unit {0}) source old g e.listing ds e.so e.done up_old up named tt)
    (unchanged-same (Unit {0}) source old g e.listing ds e.so e.done up_old up named tt)
    (e.dropped ∙ deleted-same (Unit {0}) source old g e.listing ds e.so e.done up_old up named) e.so.unnamed

pub report-bad : (source : HarvestSource) (id : List ℕ) (before : HarvestState)
    (history : List (HarvestEvent × HarvestState)) (report : SourceReport) → IsHarvest source id before history
    → (change_of_step (End id) (end_of (after_step Begin before) history)).reply ≡ Ended report
    → report.bad ≡ bad_of (reading_of source (gathered id (after_step Begin before) history nothing_gathered))
report-bad source id before history report harvest reply =
    let s = start ⊥ source id before harvest.fit harvest.begun harvest.of_source in
    let w = through ⊥ source id before history harvest s (λ none. absurd none) in
    let last : HarvestState = end_of (after_step Begin before) history in
    let g : Gathered = gathered id (after_step Begin before) history nothing_gathered in
    let old : List Package = datasets_of source before in
    let e = end-report ⊥ id source old s.number s.is_id g last w.0 w.1 (count_deleted (effect_of (End id) last)) report
    reply in
    ap (λ (r : SourceReport). r.bad) e.is
    ∙ bad-same ⊥ source old g e.listing (datasets_of source last) e.so e.done
    (IsAscending-datasets source before harvest.fit) (IsAscending-datasets source last w.0)
    (own-names source last w.0)
