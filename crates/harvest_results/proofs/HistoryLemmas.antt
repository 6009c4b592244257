-- How each step of a harvest changes how far a job is.
use Rattle.std.proofs.Common.{◌≡◌, ◌≢◌, ℕ, Bool, true, false, not, ◌&&◌, cond, List, [], ◌∷◌, Option, Some, None, refl}
use Rattle.std.proofs.Common.{sym, ap, ap₂}
use Rattle.std.proofs.Common.{◌∙◌, subst, inl, inr, ◌⊎◌, true≢false, Contains}
use Rattle.std.specs.Prelude.{filter, is_some}
use Rattle.std.specs.List.{find, flat_map, list_all}
use Rattle.std.specs.Option.{option_map_or}
use Rattle.std.specs.Str.{bytes_eq}
use Rattle.std.proofs.lemmas.Bool.{and_parts}
use Rattle.std.proofs.lemmas.Slice.Eq.{bytes_eq-Decides}
use Rattle.portal_base.proofs.Filtered.{IsIn-filter}
use Rattle.portal_base.proofs.Unique.{Contains-IsIn, IsIn}
use Rattle.portal_base.proofs.Upserted.{upserted-Contains}
use Rattle.packages.specs.Order.{dataset_cmp}
use Rattle.packages.specs.declared.package.Package.{Package}
use Rattle.packages.proofs.FindLemmas.{IsIn-find, fails}
use Rattle.harvest_records.specs.Names.{harvested_name}
use Rattle.harvest_sources.specs.Entries.{PutJob, PutListing, changed_by, sources_after, with_job, with_listing}
use Rattle.harvest_sources.specs.Jobs.{blank_report, id_of_job, in_state, is_running, job_id, with_report}
use Rattle.harvest_sources.specs.Listings.{cause_of, finished_report, first_waiting, is_done, listing_of}
use Rattle.harvest_sources.specs.Listings.{with_all_released, with_progress}
use Rattle.harvest_sources.specs.Sources.{HasItsJobs, SourceState, is_listed, open_job, source_named}
use Rattle.harvest_sources.specs.Steps.{Stepped, begun, broken, claimed, claimed_from, claimed_in, count_deleted, ended}
use Rattle.harvest_sources.specs.Steps.{ended_with}
use Rattle.harvest_sources.specs.Steps.{has_new, idle, is_unsettled, listed, on_job, open_ids, outcome_of, renewals}
use Rattle.harvest_sources.specs.Steps.{settled}
use Rattle.harvest_sources.specs.Steps.{settled_in, waiting_of, with_open_job}
use Rattle.harvest_sources.specs.declared.cause.Cause.{Cause}
use Rattle.harvest_sources.specs.declared.job.Job.{Job}
use Rattle.harvest_sources.specs.declared.job.JobState.TheVariants as state
use Rattle.harvest_sources.specs.declared.listing.Listing.{Listing}
use Rattle.harvest_sources.specs.declared.listing.Outcome.{Outcome}
use Rattle.harvest_sources.specs.declared.listing.Progress.TheVariants.{Claimed, Done as is_done_as}
use Rattle.harvest_sources.specs.declared.reading.Reading.{Reading}
use Rattle.harvest_sources.specs.declared.reading.Reading.TheVariants.{Good, Bad}
use Rattle.harvest_sources.specs.declared.source.HarvestSource.{HarvestSource}
use Rattle.harvest_sources.specs.declared.step.Item.{Item}
use Rattle.harvest_sources.specs.declared.step.Step.{Step}
use Rattle.harvest_sources.specs.declared.step.Step.TheVariants.{NewRound, Begin, List as list, Break, Claim, Settle}
use Rattle.harvest_sources.specs.declared.step.Step.TheVariants.{End}
use Rattle.harvest_sources.specs.declared.step.StepReply.TheVariants.{Started, Nothing, Done, Ended, Already}
use Rattle.harvest_results.specs.Effects.{HarvestState, after_step, change_of_step, dataset_read, effect_of}
use Rattle.harvest_results.specs.Effects.{effect_of_put}
use Rattle.harvest_results.specs.Effects.{effect_over, gone_from, gone_of}
use Rattle.harvest_results.specs.Effects.{is_of_source, is_unlisted, read_in, with_put, without}
use Rattle.harvest_sources.specs.Steps.{is_accepted}
use Rattle.harvest_results.specs.Harvested.{harvested_dataset}
use Rattle.harvest_results.specs.Histories.{Gathered, HasItsNames, IsFit, begins, datasets_of, gathers_for}
use Rattle.harvest_results.specs.Histories.{nothing_gathered, with_event}
use Rattle.harvest_results.specs.Histories.{AStep}
use Rattle.harvest_results.specs.Results.{harvested_or}
use Rattle.harvest_results.proofs.ChangeLemmas.{find-kept, gone-apart, put-apart, put-named, put-own, without-none}
use Rattle.harvest_results.proofs.JobIdLemmas.{job_id-source}
use Rattle.harvest_results.proofs.ResultLemmas.{IsOwn-harvested}
use Rattle.harvest_results.proofs.SettlingLemmas.{IsSettling, cause_in, claimed-listing, dataset_named, harvested-name}
use Rattle.harvest_results.proofs.SettlingLemmas.{new-listing, outcome_on}
use Rattle.harvest_results.proofs.SettlingLemmas.{released-listing, settled-listing_at, unsettled-object}
use Rattle.harvest_results.proofs.SettlingLemmas.{waiting-object}
use Rattle.harvest_results.proofs.SourceEntryLemmas.{IsIn-named, job_named, named-apart, named-changed, open-replaced}
use Rattle.harvest_results.proofs.SourceEntryLemmas.{renewed, renewed_from, round-own, same_source}
use Rattle.harvest_results.proofs.PhaseLemmas.{Holds, Over, Phase, Reads, Waits, after_of, ascending_listing, cond_same}
use Rattle.harvest_results.proofs.PhaseLemmas.{has_jobs, outcome-cause, phase-open, renewed-none, renewed-source, which}

-- ---- the steps

module _ (sure : Type 0) (id : List ℕ) (source : HarvestSource) (old : List Package) (number : ℕ)
    (is_id : id ≡ job_id source.name number) (g : Gathered) (st : HarvestState) (fit : IsFit source st)
    (h : Holds sure id source old g st) (alone : sure → HasItsNames source st) where
  name_of_at : h.at.source.name ≡ source.name
  name_of_at = ap (λ (s : HarvestSource). s.name) h.own

  at_in : IsIn h.at st.sources
  at_in = (IsIn-named st.sources source.name h.at h.named).0

  at_jobs : HasItsJobs h.at
  at_jobs = has_jobs st.sources fit.sources h.at (IsIn-named st.sources source.name h.at h.named).0

  at_is : (t : SourceState) → IsIn t st.sources → t.source.name ≡ source.name → h.at ≡ t
  at_is t m named = sym (same_source st.sources source.name h.at t fit.sources h.named m named)

  named_by_id : (t : SourceState) (job : Job) → IsIn t st.sources → open_job t ≡ Some job → id_of_job job ≡ id
      → t.source.name ≡ source.name
  named_by_id t job m opens is =
      sym (job_named t job (has_jobs st.sources fit.sources t m) opens)
      ∙ job_id-source job.source source.name job.number number (is ∙ is_id)

  kept_datasets : (p : Stepped) → datasets_of source (after_of p None [] st) ≡ datasets_of source st
  kept_datasets p = by (is_accepted p.reply)
    where
      by : (b : Bool)
          → filter (is_of_source source.name) (without (cond b [] []) (with_put (cond b None None) st.datasets))
          ≡ filter (is_of_source source.name) st.datasets
      by true = ap (filter (is_of_source source.name)) (without-none st.datasets)
      by false = ap (filter (is_of_source source.name)) (without-none st.datasets)

  -- the source and its datasets stay
  stay_with : (p : Stepped) (put : Option Package) (gone : List Package)
      → source_named (sources_after p.entries st.sources) source.name ≡ source_named st.sources source.name
      → datasets_of source (after_of p put gone st) ≡ datasets_of source st
      → Holds sure id source old g (after_of p put gone st)
  stay_with p put gone same datasets = record {
    at = h.at;
    named = same ∙ h.named;
    own = h.own;
    phase = subst (Phase sure id source old g h.at) (sym datasets) h.phase;
  }

  stay : (p : Stepped)
      → source_named (sources_after p.entries st.sources) source.name ≡ source_named st.sources source.name
      → Holds sure id source old g (after_of p None [] st)
  stay p same = stay_with p None [] same (kept_datasets p)

  -- the source changes, and its datasets stay
  move : (p : Stepped) (next : Gathered) (s : SourceState)
      → source_named (sources_after p.entries st.sources) source.name ≡ Some s → s.source ≡ source
      → Phase sure id source old next s (datasets_of source st) → Holds sure id source old next (after_of p None [] st)
  move p next s named own phase = record {
    at = s;
    named = named;
    own = own;
    phase = subst (Phase sure id source old next s) (sym (kept_datasets p)) phase;
  }

  -- ---- a new round

  round-step : Holds sure id source old g
      (after_of (record { entries = flat_map renewals st.sources; reply = Started (open_ids st.sources) }) None [] st)
  round-step =
      move (record { entries = flat_map renewals st.sources; reply = Started (open_ids st.sources) }) g (renewed h.at)
      (subst (λ (n : List ℕ). source_named (sources_after (flat_map renewals st.sources) st.sources) n
      ≡ Some (renewed h.at)) name_of_at
      (round-own h.at st.sources st.sources (has_jobs st.sources fit.sources) fit.sources.ascending at_in
      (subst (λ (n : List ℕ). source_named st.sources n ≡ Some h.at) (sym name_of_at) h.named)))
      (renewed-source h.at ∙ h.own) (by h.phase)
    where
      running : (b : Bool) (job : Job) → open_job h.at ≡ Some job → id_of_job job ≡ id → h.at.listing ≡ None
          → g ≡ nothing_gathered → datasets_of source st ≡ old
          → Phase sure id source old g (cond b (with_job (in_state state.New job) h.at) h.at) (datasets_of source st)
      running true job opens is unlisted nothing same =
          Waits (in_state state.New job) (open-replaced h.at job (in_state state.New job) at_jobs opens refl) is
          unlisted nothing same
      running false job opens is unlisted nothing same = Waits job opens is unlisted nothing same

      by : Phase sure id source old g h.at (datasets_of source st)
          → Phase sure id source old g (renewed h.at) (datasets_of source st)
      by (Waits job opens is unlisted nothing same) =
          subst (λ (s : SourceState). Phase sure id source old g s (datasets_of source st))
          (sym (ap₂ (renewed_from h.at) unlisted opens))
          (running (is_running job) job opens is unlisted nothing same)
      by (Reads job listing opens is listed_so so) =
          subst (λ (s : SourceState). Phase sure id source old g s (datasets_of source st))
          (sym (ap₂ (renewed_from h.at) listed_so opens))
          (Reads job (with_all_released listing) opens is refl
          (released-listing sure source old g listing (datasets_of source st) so))
      by (Over none) =
          subst (λ (s : SourceState). Phase sure id source old g s (datasets_of source st))
          (sym (ap (renewed_from h.at h.at.listing) none ∙ renewed-none h.at h.at.listing)) (Over none)

  -- ---- a job that begins

  begin-step : gathers_for id (on_job Nothing begun (find has_new st.sources)).reply ≡ false
      → Holds sure id source old g (after_of (on_job Nothing begun (find has_new st.sources)) None [] st)
  begin-step never = by (find has_new st.sources) refl never
    where
      on : (t : SourceState) (job : Job) → IsIn t st.sources → open_job t ≡ Some job
          → bytes_eq (id_of_job job) id ≡ false
          → (t.source.name ≡ source.name) ⊎ (t.source.name ≢ source.name)
          → Holds sure id source old g (after_of (begun t job) None [] st)
      on t job m opens other (inl same) =
          let here : open_job h.at ≡ Some job = ap open_job (at_is t m same) ∙ opens in
          let is : id_of_job job ≡ id = phase-open sure id source old g h.at (datasets_of source st) job h.phase here in
          absurd (true≢false (sym ((bytes_eq-Decides (id_of_job job) id).1 is) ∙ other))
      on t job m opens other (inr apart) =
          stay (begun t job)
          (named-apart source.name job.source (with_job (in_state state.Running job)) st.sources (λ s. refl)
          (λ e. apart (sym (job_named t job (has_jobs st.sources fit.sources t m) opens) ∙ e)))

      at_open : (t : SourceState) → IsIn t st.sources → (o : Option Job) → open_job t ≡ o
          → gathers_for id (option_map_or (begun t) o (idle Nothing)).reply ≡ false
          → Holds sure id source old g (after_of (option_map_or (begun t) o (idle Nothing)) None [] st)
      at_open t m None opens other = stay (idle Nothing) refl
      at_open t m (Some job) opens other = on t job m opens other (which t.source.name source.name)

      by : (o : Option SourceState) → find has_new st.sources ≡ o → gathers_for id (on_job Nothing begun o).reply ≡ false
          → Holds sure id source old g (after_of (on_job Nothing begun o) None [] st)
      by None is other = stay (idle Nothing) refl
      by (Some t) is other = at_open t (IsIn-find has_new t st.sources is).0 (open_job t) refl other

  -- ---- the job of a step

  open_id : (t : SourceState) (job : Job) (other : List ℕ) → with_open_job st.sources other ≡ Some t
      → open_job t ≡ Some job → id_of_job job ≡ other
  open_id t job other is opens =
      let there = IsIn-find (λ (s : SourceState). option_map_or (λ j. bytes_eq (id_of_job j) other) (open_job s) false)
      t st.sources is in
      (bytes_eq-Decides (id_of_job job) other).0
      (sym (ap (λ (o : Option Job). option_map_or (λ j. bytes_eq (id_of_job j) other) o false) opens) ∙ there.1)

  found_in : (t : SourceState) (other : List ℕ) → with_open_job st.sources other ≡ Some t → IsIn t st.sources
  found_in t other is =
      (IsIn-find (λ (s : SourceState). option_map_or (λ j. bytes_eq (id_of_job j) other) (open_job s) false)
      t st.sources is).0

  -- a job of another source has another id
  other_id : (t : SourceState) (job : Job) (other : List ℕ) → with_open_job st.sources other ≡ Some t
      → open_job t ≡ Some job → t.source.name ≢ source.name → bytes_eq other id ≡ false
  other_id t job other is opens apart =
      fails (bytes_eq other id) (λ like.
      apart (named_by_id t job (found_in t other is) opens
      (open_id t job other is opens ∙ (bytes_eq-Decides other id).0 like)))

  -- the open job of the source is that of the step
  own_id : (job : Job) (other : List ℕ) → with_open_job st.sources other ≡ Some h.at → open_job h.at ≡ Some job
      → bytes_eq other id ≡ true
  own_id job other is opens =
      (bytes_eq-Decides other id).1
      (sym (open_id h.at job other is opens)
      ∙ phase-open sure id source old g h.at (datasets_of source st) job h.phase opens)

  -- ---- a catalogue that is listed

  list-own : (other : List ℕ) (items : List Item) (unnamed : ℕ) (job : Job) → bytes_eq other id ≡ true
      → open_job h.at ≡ Some job
      → Holds sure id source old
      (cond (is_accepted (listed items unnamed h.at job).reply)
      (cond (bytes_eq other id) (record g { items = items; unnamed = unnamed }) g) g)
      (after_of (listed items unnamed h.at job) None [] st)
  list-own other items unnamed job like opens = by (is_running job && not (is_listed h.at)) refl
    where
      p : Stepped
      p = record {
        entries =
            PutListing h.at.source.name (Some (listing_of h.at.source.name items unnamed)) ∷ [];
        reply = Done;
      }

      phase : not (is_listed h.at) ≡ true → Phase sure id source old g h.at (datasets_of source st)
          → Phase sure id source old (record g { items = items; unnamed = unnamed })
          (with_listing (Some (listing_of h.at.source.name items unnamed)) h.at) (datasets_of source st)
      phase free (Waits j opened is unlisted nothing same) =
          Reads j (listing_of h.at.source.name items unnamed) opened is refl
          (subst (λ (n : List ℕ). IsSettling sure source old (record g { items = items; unnamed = unnamed })
          (listing_of n items unnamed) (datasets_of source st)) (sym name_of_at)
          (subst (λ (l : List Package). IsSettling sure source old (record g { items = items; unnamed = unnamed })
          (listing_of source.name items unnamed) l) (sym same)
          (subst (λ (k : Gathered). IsSettling sure source old (record k { items = items; unnamed = unnamed })
          (listing_of source.name items unnamed) old) (sym nothing)
          (new-listing sure source old items unnamed))))
      phase free (Reads j listing opened is listed_so so) =
          absurd (true≢false (sym free ∙ ap (λ (l : Option Listing). not (is_some l)) listed_so))
      phase free (Over none) = absurd (cc)

      by : (b : Bool) → (is_running job && not (is_listed h.at)) ≡ b
          → Holds sure id source old
          (cond (is_accepted (cond b p (idle Already)).reply)
          (cond (bytes_eq other id) (record g { items = items; unnamed = unnamed }) g) g)
          (after_of (cond b p (idle Already)) None [] st)
      by true goes =
          subst (λ (b : Bool). Holds sure id source old (cond b (record g { items = items; unnamed = unnamed }) g)
          (after_of p None [] st)) (sym like)
          (move p (record g { items = items; unnamed = unnamed })
          (with_listing (Some (listing_of h.at.source.name items unnamed)) h.at)
          (named-changed source.name h.at.source.name (with_listing (Some (listing_of h.at.source.name items unnamed)))
          st.sources h.at (λ s. refl) h.named name_of_at) h.own
          (phase (and_parts (is_running job) (not (is_listed h.at)) goes).1 h.phase))
      by false goes = stay (idle Already) refl

  list-apart : (other : List ℕ) (items : List Item) (unnamed : ℕ) (t : SourceState) (job : Job)
      → bytes_eq other id ≡ false → t.source.name ≢ source.name
      → Holds sure id source old
      (cond (is_accepted (listed items unnamed t job).reply)
      (cond (bytes_eq other id) (record g { items = items; unnamed = unnamed }) g) g)
      (after_of (listed items unnamed t job) None [] st)
  list-apart other items unnamed t job unlike apart = by (is_running job && not (is_listed t))
    where
      p : Stepped
      p = record {
        entries = PutListing t.source.name (Some (listing_of t.source.name items unnamed)) ∷ [];
        reply = Done;
      }

      by : (b : Bool)
          → Holds sure id source old
          (cond (is_accepted (cond b p (idle Already)).reply)
          (cond (bytes_eq other id) (record g { items = items; unnamed = unnamed }) g) g)
          (after_of (cond b p (idle Already)) None [] st)
      by true =
          subst (λ (b : Bool). Holds sure id source old (cond b (record g { items = items; unnamed = unnamed }) g)
          (after_of p None [] st)) (sym unlike)
          (stay p
          (named-apart source.name t.source.name (with_listing (Some (listing_of t.source.name items unnamed)))
          st.sources (λ s. refl) apart))
      by false = stay (idle Already) refl

  list-step : (other : List ℕ) (items : List Item) (unnamed : ℕ)
      → Holds sure id source old
      (cond (is_accepted (on_job Already (listed items unnamed) (with_open_job st.sources other)).reply)
      (cond (bytes_eq other id) (record g { items = items; unnamed = unnamed }) g) g)
      (after_of (on_job Already (listed items unnamed) (with_open_job st.sources other)) None [] st)
  list-step other items unnamed = by (with_open_job st.sources other) refl
    where
      on : (t : SourceState) (job : Job) → with_open_job st.sources other ≡ Some t → open_job t ≡ Some job
          → (t.source.name ≡ source.name) ⊎ (t.source.name ≢ source.name)
          → Holds sure id source old
          (cond (is_accepted (listed items unnamed t job).reply)
          (cond (bytes_eq other id) (record g { items = items; unnamed = unnamed }) g) g)
          (after_of (listed items unnamed t job) None [] st)
      on t job is opens (inl same) =
          let here : h.at ≡ t = at_is t (found_in t other is) same in
          let opened : open_job h.at ≡ Some job = ap open_job here ∙ opens in
          subst (λ (u : SourceState). Holds sure id source old
          (cond (is_accepted (listed items unnamed u job).reply)
          (cond (bytes_eq other id) (record g { items = items; unnamed = unnamed }) g) g)
          (after_of (listed items unnamed u job) None [] st)) here
          (list-own other items unnamed job (own_id job other (is ∙ ap Some (sym here)) opened) opened)
      on t job is opens (inr apart) =
          list-apart other items unnamed t job (other_id t job other is opens apart) apart

      at_open : (t : SourceState) → with_open_job st.sources other ≡ Some t → (o : Option Job) → open_job t ≡ o
          → Holds sure id source old
          (cond (is_accepted (option_map_or (listed items unnamed t) o (idle Already)).reply)
          (cond (bytes_eq other id) (record g { items = items; unnamed = unnamed }) g) g)
          (after_of (option_map_or (listed items unnamed t) o (idle Already)) None [] st)
      at_open t is None opens = stay (idle Already) refl
      at_open t is (Some job) opens = on t job is opens (which t.source.name source.name)

      by : (o : Option SourceState) → with_open_job st.sources other ≡ o
          → Holds sure id source old
          (cond (is_accepted (on_job Already (listed items unnamed) o).reply)
          (cond (bytes_eq other id) (record g { items = items; unnamed = unnamed }) g) g)
          (after_of (on_job Already (listed items unnamed) o) None [] st)
      by None is = stay (idle Already) refl
      by (Some t) is = at_open t is (open_job t) refl

  -- ---- a catalogue that can't be read

  break-own : (cause : Cause) (job : Job) → open_job h.at ≡ Some job
      → Holds sure id source old g (after_of (broken cause h.at job) None [] st)
  break-own cause job opens = by (is_running job && not (is_listed h.at))
    where
      p : Stepped
      p = record {
        entries = PutJob (in_state (state.Broken cause) job) ∷ [];
        reply = Ended (blank_report job.source (state.Broken cause));
      }

      by : (b : Bool) → Holds sure id source old g (after_of (cond b p (idle Already)) None [] st)
      by true =
          move p g (with_job (in_state (state.Broken cause) job) h.at)
          (named-changed source.name job.source (with_job (in_state (state.Broken cause) job)) st.sources h.at
          (λ s. refl) h.named (job_named h.at job at_jobs opens ∙ name_of_at)) h.own
          (Over (open-replaced h.at job (in_state (state.Broken cause) job) at_jobs opens refl))
      by false = stay (idle Already) refl

  break-apart : (cause : Cause) (t : SourceState) (job : Job) → job.source ≢ source.name
      → Holds sure id source old g (after_of (broken cause t job) None [] st)
  break-apart cause t job apart = by (is_running job && not (is_listed t))
    where
      p : Stepped
      p = record {
        entries = PutJob (in_state (state.Broken cause) job) ∷ [];
        reply = Ended (blank_report job.source (state.Broken cause));
      }

      by : (b : Bool) → Holds sure id source old g (after_of (cond b p (idle Already)) None [] st)
      by true =
          stay p
          (named-apart source.name job.source (with_job (in_state (state.Broken cause) job)) st.sources (λ s. refl)
          apart)
      by false = stay (idle Already) refl

  -- the job of another source is one of another source
  job_apart : (t : SourceState) (job : Job) → IsIn t st.sources → open_job t ≡ Some job → t.source.name ≢ source.name
      → job.source ≢ source.name
  job_apart t job m opens apart e =
      apart (sym (job_named t job (has_jobs st.sources fit.sources t m) opens) ∙ e)

  break-step : (other : List ℕ) (cause : Cause)
      → Holds sure id source old g
      (after_of (on_job Already (broken cause) (with_open_job st.sources other)) None [] st)
  break-step other cause = by (with_open_job st.sources other) refl
    where
      on : (t : SourceState) (job : Job) → with_open_job st.sources other ≡ Some t → open_job t ≡ Some job
          → (t.source.name ≡ source.name) ⊎ (t.source.name ≢ source.name)
          → Holds sure id source old g (after_of (broken cause t job) None [] st)
      on t job is opens (inl same) =
          let here : h.at ≡ t = at_is t (found_in t other is) same in
          subst (λ (u : SourceState). Holds sure id source old g (after_of (broken cause u job) None [] st)) here
          (break-own cause job (ap open_job here ∙ opens))
      on t job is opens (inr apart) =
          break-apart cause t job (job_apart t job (found_in t other is) opens apart)

      at_open : (t : SourceState) → with_open_job st.sources other ≡ Some t → (o : Option Job) → open_job t ≡ o
          → Holds sure id source old g (after_of (option_map_or (broken cause t) o (idle Already)) None [] st)
      at_open t is None opens = stay (idle Already) refl
      at_open t is (Some job) opens = on t job is opens (which t.source.name source.name)

      by : (o : Option SourceState) → with_open_job st.sources other ≡ o
          → Holds sure id source old g (after_of (on_job Already (broken cause) o) None [] st)
      by None is = stay (idle Already) refl
      by (Some t) is = at_open t is (open_job t) refl

  -- ---- an object that is claimed

  claim-own : (job : Job) → open_job h.at ≡ Some job
      → Holds sure id source old g (after_of (claimed_from h.at job h.at.listing) None [] st)
  claim-own job opens = by h.at.listing refl
    where
      phase : (listing : Listing) (item : Item) → h.at.listing ≡ Some listing → first_waiting listing ≡ Some item
          → Phase sure id source old g h.at (datasets_of source st)
          → Phase sure id source old g
          (with_listing (Some (with_progress item.iri (Claimed item.found) listing)) h.at) (datasets_of source st)
      phase listing item is first (Waits j opened named unlisted nothing same) = absurd (cc)
      phase listing item is first (Reads j l opened named listed_so so) =
          let alike : l ≡ listing = cc in
          let w = waiting-object listing item first in
          Reads j (with_progress item.iri (Claimed item.found) listing) opened named refl
          (subst (λ (iri : List ℕ). IsSettling sure source old g (with_progress iri (Claimed item.found) listing)
          (datasets_of source st)) w.2
          (claimed-listing sure source old g listing (datasets_of source st) w.0 (Claimed item.found)
          (ascending_listing h.at listing at_jobs is) w.1 (sym w.3)
          (subst (λ (m : Listing). IsSettling sure source old g m (datasets_of source st)) alike so)))
      phase listing item is first (Over none) = absurd (cc)

      at_first : (listing : Listing) → h.at.listing ≡ Some listing → (o : Option Item) → first_waiting listing ≡ o
          → Holds sure id source old g
          (after_of (option_map_or (claimed_in h.at job listing) o (idle Nothing)) None [] st)
      at_first listing is None first = stay (idle Nothing) refl
      at_first listing is (Some item) first =
          move (claimed_in h.at job listing item) g
          (with_listing (Some (with_progress item.iri (Claimed item.found) listing)) h.at)
          (named-changed source.name h.at.source.name
          (with_listing (Some (with_progress item.iri (Claimed item.found) listing))) st.sources h.at (λ s. refl)
          h.named name_of_at) h.own (phase listing item is first h.phase)

      by : (l : Option Listing) → h.at.listing ≡ l
          → Holds sure id source old g (after_of (claimed_from h.at job l) None [] st)
      by None is = stay (idle Nothing) refl
      by (Some listing) is = at_first listing is (first_waiting listing) refl

  claim-apart : (t : SourceState) (job : Job) → t.source.name ≢ source.name
      → Holds sure id source old g (after_of (claimed_from t job t.listing) None [] st)
  claim-apart t job apart = by t.listing
    where
      at_first : (listing : Listing) (o : Option Item)
          → Holds sure id source old g (after_of (option_map_or (claimed_in t job listing) o (idle Nothing)) None [] st)
      at_first listing None = stay (idle Nothing) refl
      at_first listing (Some item) =
          stay (claimed_in t job listing item)
          (named-apart source.name t.source.name
          (with_listing (Some (with_progress item.iri (Claimed item.found) listing))) st.sources (λ s. refl) apart)

      by : (l : Option Listing) → Holds sure id source old g (after_of (claimed_from t job l) None [] st)
      by None = stay (idle Nothing) refl
      by (Some listing) = at_first listing (first_waiting listing)

  claim-step : Holds sure id source old g
      (after_of (on_job Nothing claimed (find (λ s. is_some (waiting_of s)) st.sources)) None [] st)
  claim-step = by (find (λ s. is_some (waiting_of s)) st.sources) refl
    where
      on : (t : SourceState) (job : Job) → IsIn t st.sources → open_job t ≡ Some job
          → (t.source.name ≡ source.name) ⊎ (t.source.name ≢ source.name)
          → Holds sure id source old g (after_of (claimed t job) None [] st)
      on t job m opens (inl same) =
          let here : h.at ≡ t = at_is t m same in
          subst (λ (u : SourceState). Holds sure id source old g (after_of (claimed u job) None [] st)) here
          (claim-own job (ap open_job here ∙ opens))
      on t job m opens (inr apart) = claim-apart t job apart

      at_open : (t : SourceState) → IsIn t st.sources → (o : Option Job) → open_job t ≡ o
          → Holds sure id source old g (after_of (option_map_or (claimed t) o (idle Nothing)) None [] st)
      at_open t m None opens = stay (idle Nothing) refl
      at_open t m (Some job) opens = on t job m opens (which t.source.name source.name)

      by : (o : Option SourceState) → find (λ s. is_some (waiting_of s)) st.sources ≡ o
          → Holds sure id source old g (after_of (on_job Nothing claimed o) None [] st)
      by None is = stay (idle Nothing) refl
      by (Some t) is =
          at_open t (IsIn-find (λ (s : SourceState). is_some (waiting_of s)) t st.sources is).0 (open_job t) refl

  -- ---- an object that is settled

  put-other : (t : SourceState) (iri : List ℕ) (reading : Reading) (sources : List SourceState)
      → t.source.name ≢ source.name
      → IsFit source
      (record { sources = sources; datasets = without [] (with_put (dataset_read t iri reading) st.datasets) })
      → filter (is_of_source source.name) (without [] (with_put (dataset_read t iri reading) st.datasets))
      ≡ filter (is_of_source source.name) st.datasets
  put-other t iri (Bad cause) sources apart after =
      ap (filter (is_of_source source.name)) (without-none st.datasets)
  put-other t iri (Good r) sources apart after =
      ap (filter (is_of_source source.name)) (without-none (with_put (Some d) st.datasets))
      ∙ put-apart source d st.datasets fit.ascending other
      (λ e m ids own_e.
      let own = fit.own e (Contains-IsIn e st.datasets m) own_e in
      other (after.apart d e.iri
      (subst (λ (l : List Package). Contains l d) (sym (without-none (with_put (Some d) st.datasets)))
      (upserted-Contains dataset_cmp d st.datasets))
      (sym ids ∙ own.id_is_name ∙ own.named)))
    where
      d : Package
      d = harvested_dataset t.source iri r

      other : d.source ≢ source.name
      other e = apart (sym (IsOwn-harvested t.source iri r).of_source ∙ e)

  own_ids : (e : Package) → IsIn e (datasets_of source st) → e.id ≡ e.name
  own_ids e m =
      let there = IsIn-filter (is_of_source source.name) e st.datasets m in
      (fit.own e (Contains-IsIn e st.datasets there.0) ((bytes_eq-Decides e.source source.name).0 there.1)).id_is_name

  put-looks : (iri : List ℕ) (reading : Reading) (name : List ℕ)
      → dataset_named
      (filter (is_of_source source.name) (without [] (with_put (dataset_read h.at iri reading) st.datasets))) name
      ≡ cond (bytes_eq (harvested_name source.name iri) name)
      (harvested_or (dataset_named (datasets_of source st) name) source iri reading)
      (dataset_named (datasets_of source st) name)
  put-looks iri (Bad cause) name =
      ap (λ (l : List Package). dataset_named (filter (is_of_source source.name) l) name) (without-none st.datasets)
      ∙ sym (cond_same (bytes_eq (harvested_name source.name iri) name) (dataset_named (datasets_of source st) name))
  put-looks iri (Good r) name =
      ap (λ (l : List Package). dataset_named (filter (is_of_source source.name) l) name)
      (without-none (with_put (Some d) st.datasets))
      ∙ ap (λ (l : List Package). dataset_named l name)
      (put-own source d st.datasets fit.ascending ((IsOwn-harvested h.at.source iri r).of_source ∙ name_of_at))
      ∙ put-named d (datasets_of source st) name (IsOwn-harvested h.at.source iri r).id_is_name own_ids
      ∙ ap (λ (s : HarvestSource). cond (bytes_eq (harvested_dataset s iri r).name name)
      (Some (harvested_dataset s iri r)) (dataset_named (datasets_of source st) name)) h.own
      ∙ ap (λ (n : List ℕ). cond (bytes_eq n name) (Some (harvested_dataset source iri r))
      (dataset_named (datasets_of source st) name)) (harvested-name source iri r)
    where
      d : Package
      d = harvested_dataset h.at.source iri r

  -- what is settled is what it is on the source's datasets
  own_outcome : sure → (iri : List ℕ) (reading : Reading) (o : Outcome)
      → o ≡ outcome_of reading (effect_of_put st.datasets (dataset_read h.at iri reading))
      → o ≡ outcome_on source (datasets_of source st) (record { iri = iri; reading = reading })
  own_outcome s iri (Bad cause) o is = is
  own_outcome s iri (Good r) o is =
      is
      ∙ ap (λ (src : HarvestSource). outcome_of (Good r)
      (effect_of_put st.datasets (Some (harvested_dataset src iri r)))) h.own
      ∙ ap (λ (old_one : Option Package). outcome_of (Good r) (effect_over (harvested_dataset source iri r) old_one))
      (sym (find-kept (λ (e : Package). bytes_eq e.name (harvested_dataset source iri r).name)
      (is_of_source source.name) st.datasets
      (λ e m hidden. fails (bytes_eq e.name (harvested_dataset source iri r).name) (λ like.
      true≢false (sym ((bytes_eq-Decides e.source source.name).1
      (alone s e iri (Contains-IsIn e st.datasets m)
      ((bytes_eq-Decides e.name (harvested_dataset source iri r).name).0 like ∙ harvested-name source iri r)))
      ∙ hidden)))))

  settle-own : (other iri : List ℕ) (reading : Reading) (o : Outcome) (job : Job) → bytes_eq other id ≡ true
      → open_job h.at ≡ Some job → cause_of o ≡ cause_in reading
      → o ≡ outcome_of reading (effect_of_put st.datasets (dataset_read h.at iri reading))
      → Holds sure id source old
      (cond (is_accepted (settled_in iri o h.at h.at.listing).reply)
      (cond (bytes_eq other id) (record g { settled = record { iri = iri; reading = reading } ∷ g.settled }) g) g)
      (after_of (settled_in iri o h.at h.at.listing) (dataset_read h.at iri reading) [] st)
  settle-own other iri reading o job like opens came came_to = by h.at.listing refl
    where
      next : Gathered
      next = record g { settled = record { iri = iri; reading = reading } ∷ g.settled }

      p : Listing → Stepped
      p listing = record {
        entries = PutListing h.at.source.name (Some (with_progress iri (is_done_as o) listing)) ∷ [];
        reply = Done;
      }

      phase : (listing : Listing) → h.at.listing ≡ Some listing → is_unsettled iri listing ≡ true
          → Phase sure id source old g h.at (datasets_of source st)
          → Phase sure id source old next (with_listing (Some (with_progress iri (is_done_as o) listing)) h.at)
          (filter (is_of_source source.name) (without [] (with_put (dataset_read h.at iri reading) st.datasets)))
      phase listing is unsettled (Waits j opened named unlisted nothing same) = absurd (cc)
      phase listing is unsettled (Reads j l opened named listed_so so) =
          let alike : l ≡ listing = cc in
          let w = unsettled-object listing iri unsettled in
          Reads j (with_progress iri (is_done_as o) listing) opened named refl
          (settled-listing_at sure source old g listing (datasets_of source st)
          (filter (is_of_source source.name) (without [] (with_put (dataset_read h.at iri reading) st.datasets)))
          w.0 iri reading o w.2 (ascending_listing h.at listing at_jobs is) w.1 w.3 came
          (λ s. own_outcome s iri reading o came_to) (put-looks iri reading)
          (subst (λ (m : Listing). IsSettling sure source old g m (datasets_of source st)) alike so))
      phase listing is unsettled (Over none) = absurd (cc)

      at_iri : (listing : Listing) → h.at.listing ≡ Some listing → (b : Bool) → is_unsettled iri listing ≡ b
          → Holds sure id source old
          (cond (is_accepted (cond b (p listing) (idle Already)).reply) (cond (bytes_eq other id) next g) g)
          (after_of (cond b (p listing) (idle Already)) (dataset_read h.at iri reading) [] st)
      at_iri listing is true unsettled =
          subst (λ (b : Bool). Holds sure id source old (cond b next g)
          (after_of (p listing) (dataset_read h.at iri reading) [] st)) (sym like)
          (record {
            at = with_listing (Some (with_progress iri (is_done_as o) listing)) h.at;
            named =
                named-changed source.name h.at.source.name
                (with_listing (Some (with_progress iri (is_done_as o) listing))) st.sources h.at (λ s. refl) h.named
                name_of_at;
            own = h.own;
            phase = phase listing is unsettled h.phase;
          })
      at_iri listing is false unsettled = stay (idle Already) refl

      by : (l : Option Listing) → h.at.listing ≡ l
          → Holds sure id source old
          (cond (is_accepted (settled_in iri o h.at l).reply) (cond (bytes_eq other id) next g) g)
          (after_of (settled_in iri o h.at l) (dataset_read h.at iri reading) [] st)
      by None is = stay (idle Already) refl
      by (Some listing) is = at_iri listing is (is_unsettled iri listing) refl

  settle-apart : (other iri : List ℕ) (reading : Reading) (o : Outcome) (t : SourceState) → bytes_eq other id ≡ false
      → t.source.name ≢ source.name
      → IsFit source (after_of (settled_in iri o t t.listing) (dataset_read t iri reading) [] st)
      → Holds sure id source old
      (cond (is_accepted (settled_in iri o t t.listing).reply)
      (cond (bytes_eq other id) (record g { settled = record { iri = iri; reading = reading } ∷ g.settled }) g) g)
      (after_of (settled_in iri o t t.listing) (dataset_read t iri reading) [] st)
  settle-apart other iri reading o t unlike apart = by t.listing
    where
      next : Gathered
      next = record g { settled = record { iri = iri; reading = reading } ∷ g.settled }

      p : Listing → Stepped
      p listing = record {
        entries = PutListing t.source.name (Some (with_progress iri (is_done_as o) listing)) ∷ [];
        reply = Done;
      }

      at_iri : (listing : Listing) (b : Bool)
          → IsFit source (after_of (cond b (p listing) (idle Already)) (dataset_read t iri reading) [] st)
          → Holds sure id source old
          (cond (is_accepted (cond b (p listing) (idle Already)).reply) (cond (bytes_eq other id) next g) g)
          (after_of (cond b (p listing) (idle Already)) (dataset_read t iri reading) [] st)
      at_iri listing true after =
          subst (λ (b : Bool). Holds sure id source old (cond b next g)
          (after_of (p listing) (dataset_read t iri reading) [] st)) (sym unlike)
          (stay_with (p listing) (dataset_read t iri reading) []
          (named-apart source.name t.source.name (with_listing (Some (with_progress iri (is_done_as o) listing)))
          st.sources (λ s. refl) apart)
          (put-other t iri reading (sources_after (p listing).entries st.sources) apart after))
      at_iri listing false after = stay (idle Already) refl

      by : (l : Option Listing) → IsFit source (after_of (settled_in iri o t l) (dataset_read t iri reading) [] st)
          → Holds sure id source old
          (cond (is_accepted (settled_in iri o t l).reply) (cond (bytes_eq other id) next g) g)
          (after_of (settled_in iri o t l) (dataset_read t iri reading) [] st)
      by None after = stay (idle Already) refl
      by (Some listing) after = at_iri listing (is_unsettled iri listing) after

  settle-step : (other iri : List ℕ) (reading : Reading) (o : Outcome) → cause_of o ≡ cause_in reading
      → ((t : SourceState) → with_open_job st.sources other ≡ Some t
      → o ≡ outcome_of reading (effect_of_put st.datasets (dataset_read t iri reading)))
      → IsFit source (after_of (on_job Already (settled iri o) (with_open_job st.sources other))
      (read_in iri reading (with_open_job st.sources other)) [] st)
      → Holds sure id source old
      (cond (is_accepted (on_job Already (settled iri o) (with_open_job st.sources other)).reply)
      (cond (bytes_eq other id) (record g { settled = record { iri = iri; reading = reading } ∷ g.settled }) g) g)
      (after_of (on_job Already (settled iri o) (with_open_job st.sources other))
      (read_in iri reading (with_open_job st.sources other)) [] st)
  settle-step other iri reading o came came_to = by (with_open_job st.sources other) refl
    where
      next : Gathered
      next = record g { settled = record { iri = iri; reading = reading } ∷ g.settled }

      on : (t : SourceState) (job : Job) → with_open_job st.sources other ≡ Some t → open_job t ≡ Some job
          → (t.source.name ≡ source.name) ⊎ (t.source.name ≢ source.name)
          → IsFit source (after_of (settled iri o t job) (dataset_read t iri reading) [] st)
          → Holds sure id source old
          (cond (is_accepted (settled iri o t job).reply) (cond (bytes_eq other id) next g) g)
          (after_of (settled iri o t job) (dataset_read t iri reading) [] st)
      on t job is opens (inl same) after =
          let here : h.at ≡ t = at_is t (found_in t other is) same in
          let opened : open_job h.at ≡ Some job = ap open_job here ∙ opens in
          subst (λ (u : SourceState). Holds sure id source old
          (cond (is_accepted (settled iri o u job).reply) (cond (bytes_eq other id) next g) g)
          (after_of (settled iri o u job) (dataset_read u iri reading) [] st)) here
          (settle-own other iri reading o job (own_id job other (is ∙ ap Some (sym here)) opened) opened came
          (came_to h.at (is ∙ ap Some (sym here))))
      on t job is opens (inr apart) after =
          settle-apart other iri reading o t (other_id t job other is opens apart) apart after

      at_open : (t : SourceState) → with_open_job st.sources other ≡ Some t → (j : Option Job) → open_job t ≡ j
          → IsFit source
          (after_of (option_map_or (settled iri o t) j (idle Already)) (dataset_read t iri reading) [] st)
          → Holds sure id source old
          (cond (is_accepted (option_map_or (settled iri o t) j (idle Already)).reply)
          (cond (bytes_eq other id) next g) g)
          (after_of (option_map_or (settled iri o t) j (idle Already)) (dataset_read t iri reading) [] st)
      at_open t is None opens after = stay (idle Already) refl
      at_open t is (Some job) opens after = on t job is opens (which t.source.name source.name) after

      by : (u : Option SourceState) → with_open_job st.sources other ≡ u
          → IsFit source (after_of (on_job Already (settled iri o) u) (read_in iri reading u) [] st)
          → Holds sure id source old
          (cond (is_accepted (on_job Already (settled iri o) u).reply) (cond (bytes_eq other id) next g) g)
          (after_of (on_job Already (settled iri o) u) (read_in iri reading u) [] st)
      by None is after = stay (idle Already) refl
      by (Some t) is after = at_open t is (open_job t) refl after

  -- ---- a job that ends

  end-own : (deleted : ℕ) (job : Job) → open_job h.at ≡ Some job
      → Holds sure id source old g
      (after_of (ended_with deleted h.at job h.at.listing) None
      (gone_from h.at.source.name h.at.listing st.datasets) st)
  end-own deleted job opens = by h.at.listing
    where
      done : Listing → Job
      done listing = with_report (finished_report job.source listing deleted) job

      p : Listing → Stepped
      p listing = record {
        entries = PutListing h.at.source.name None ∷ PutJob (done listing) ∷ [];
        reply = Ended (finished_report job.source listing deleted);
      }

      at_end : (listing : Listing) (b : Bool)
          → Holds sure id source old g
          (after_of (cond b (p listing) (idle Already)) None
          (filter (is_unlisted h.at.source.name listing) st.datasets) st)
      at_end listing true = record {
        at = with_job (done listing) (with_listing None h.at);
        named =
            named-changed source.name job.source (with_job (done listing))
            (changed_by (PutListing h.at.source.name None) st.sources) (with_listing None h.at) (λ s. refl)
            (named-changed source.name h.at.source.name (with_listing None) st.sources h.at (λ s. refl) h.named
            name_of_at)
            (job_named h.at job at_jobs opens ∙ name_of_at);
        own = h.own;
        phase = Over (open-replaced h.at job (done listing) at_jobs opens refl);
      }
      at_end listing false = stay (idle Already) refl

      by : (l : Option Listing)
          → Holds sure id source old g
          (after_of (ended_with deleted h.at job l) None (gone_from h.at.source.name l st.datasets) st)
      by None = stay (idle Already) refl
      by (Some listing) = at_end listing (list_all is_done listing.objects)

  end-apart : (deleted : ℕ) (t : SourceState) (job : Job) → t.source.name ≢ source.name → job.source ≢ source.name
      → Holds sure id source old g
      (after_of (ended_with deleted t job t.listing) None (gone_from t.source.name t.listing st.datasets) st)
  end-apart deleted t job apart job_of = by t.listing
    where
      done : Listing → Job
      done listing = with_report (finished_report job.source listing deleted) job

      p : Listing → Stepped
      p listing = record {
        entries = PutListing t.source.name None ∷ PutJob (done listing) ∷ [];
        reply = Ended (finished_report job.source listing deleted);
      }

      at_end : (listing : Listing) (b : Bool)
          → Holds sure id source old g
          (after_of (cond b (p listing) (idle Already)) None
          (filter (is_unlisted t.source.name listing) st.datasets) st)
      at_end listing true =
          stay_with (p listing) None (filter (is_unlisted t.source.name listing) st.datasets)
          (named-apart source.name job.source (with_job (done listing))
          (changed_by (PutListing t.source.name None) st.sources) (λ s. refl) job_of
          ∙ named-apart source.name t.source.name (with_listing None) st.sources (λ s. refl) apart)
          (gone-apart source t.source.name listing st.datasets fit.ascending apart)
      at_end listing false = stay (idle Already) refl

      by : (l : Option Listing)
          → Holds sure id source old g
          (after_of (ended_with deleted t job l) None (gone_from t.source.name l st.datasets) st)
      by None = stay (idle Already) refl
      by (Some listing) = at_end listing (list_all is_done listing.objects)

  end-step : (other : List ℕ) (deleted : ℕ)
      → Holds sure id source old g
      (after_of (on_job Already (ended deleted) (with_open_job st.sources other)) None
      (gone_of (with_open_job st.sources other) st.datasets) st)
  end-step other deleted = by (with_open_job st.sources other) refl
    where
      on : (t : SourceState) (job : Job) → with_open_job st.sources other ≡ Some t → open_job t ≡ Some job
          → (t.source.name ≡ source.name) ⊎ (t.source.name ≢ source.name)
          → Holds sure id source old g
          (after_of (ended deleted t job) None (gone_from t.source.name t.listing st.datasets) st)
      on t job is opens (inl same) =
          let here : h.at ≡ t = at_is t (found_in t other is) same in
          subst (λ (u : SourceState). Holds sure id source old g
          (after_of (ended deleted u job) None (gone_from u.source.name u.listing st.datasets) st)) here
          (end-own deleted job (ap open_job here ∙ opens))
      on t job is opens (inr apart) =
          end-apart deleted t job apart (job_apart t job (found_in t other is) opens apart)

      at_open : (t : SourceState) → with_open_job st.sources other ≡ Some t → (o : Option Job) → open_job t ≡ o
          → Holds sure id source old g
          (after_of (option_map_or (ended deleted t) o (idle Already)) None
          (gone_from t.source.name t.listing st.datasets) st)
      at_open t is None opens = stay (idle Already) refl
      at_open t is (Some job) opens = on t job is opens (which t.source.name source.name)

      by : (o : Option SourceState) → with_open_job st.sources other ≡ o
          → Holds sure id source old g
          (after_of (on_job Already (ended deleted) o) None (gone_of o st.datasets) st)
      by None is = stay (idle Already) refl
      by (Some t) is = at_open t is (open_job t) refl

  -- ---- every step

  pub step-holds : (step : Step) → begins id st step ≡ false → IsFit source (after_step step st)
      → Holds sure id source old (with_event id st (AStep step) g) (after_step step st)
  step-holds NewRound never after = round-step
  step-holds Begin never after =
      subst (λ (k : Gathered). Holds sure id source old k (after_step Begin st))
      (sym (cond_same (is_accepted (change_of_step Begin st).reply) g)) (begin-step never)
  step-holds (list job items unnamed) never after = list-step job items unnamed
  step-holds (Break job cause) never after =
      subst (λ (k : Gathered). Holds sure id source old k (after_step (Break job cause) st))
      (sym (cond_same (is_accepted (change_of_step (Break job cause) st).reply) g)) (break-step job cause)
  step-holds Claim never after =
      subst (λ (k : Gathered). Holds sure id source old k (after_step Claim st))
      (sym (cond_same (is_accepted (change_of_step Claim st).reply) g)) claim-step
  step-holds (Settle job iri reading) never after =
      settle-step job iri reading (outcome_of reading (effect_of (Settle job iri reading) st))
      (outcome-cause reading (effect_of (Settle job iri reading) st))
      (λ t is. ap (λ (u : Option SourceState). outcome_of reading (effect_of_put st.datasets (read_in iri reading u)))
      is) after
  step-holds (End job) never after =
      subst (λ (k : Gathered). Holds sure id source old k (after_step (End job) st))
      (sym (cond_same (is_accepted (change_of_step (End job) st).reply) g))
      (end-step job (count_deleted (effect_of (End job) st)))
