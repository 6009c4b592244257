-- The end of a job in a round: what it leaves, and what it reports.
use Rattle.std.proofs.Common.{◌≡◌, ◌∙◌, ℕ, Bool, true, false, not, cond, List, [], ◌∷◌, Option, Some, None, refl, sym, ap, subst}
use Rattle.std.proofs.Common.{ap₂, inl, inr, ◌⊎◌}
use Rattle.std.specs.List.{list_all}
use Rattle.std.specs.Option.{option_map_or}
use Rattle.std.specs.Ordering.{is_eq, nat_cmp}
use Rattle.std.proofs.lemmas.Cmp.{nat_cmp_total, tied_itself}
use Rattle.portal_base.specs.Ordered.{inserted, upserted}
use Rattle.portal_base.proofs.Upserted.{filter-upserted_hidden}
use Rattle.packages.specs.declared.package.Package.{Package}
use Rattle.harvest_readings.specs.Harvests.{Documents}
use Rattle.harvest_results.specs.Counts.{bad_of, counts_in, counts_of}
use Rattle.harvest_results.specs.Effects.{HarvestState, after_step, change_of_step, effect_of}
use Rattle.harvest_results.specs.Histories.{datasets_of, last_of, reading_by, reading_of}
use Rattle.harvest_results.specs.Readings.{CatalogueReading}
use Rattle.harvest_results.specs.Results.{datasets_after}
use Rattle.harvest_results.proofs.JobLemmas.{ended-leaves, report-bad, report-counts}
use Rattle.harvest_results.proofs.PhaseLemmas.{Over as over, Phase, Reads as reads, Waits, cond_same, has_jobs}
use Rattle.harvest_results.proofs.SettlingLemmas.{IsSettling}
use Rattle.harvest_results.proofs.SourceEntryLemmas.{IsIn-named, named-changed, open-replaced}
use Rattle.harvest_sources.specs.Entries.{PutJob, PutListing, sources_after, with_job, with_listing, with_source_at}
use Rattle.harvest_sources.specs.Jobs.{id_of_job, in_state, job_cmp, job_id, with_report}
use Rattle.harvest_sources.specs.Listings.{finished_report, is_done}
use Rattle.harvest_sources.specs.Sources.{HasItsJobs, SourceState, open_job, source_named}
use Rattle.harvest_sources.specs.Steps.{Stepped, count_deleted, ended, idle, is_accepted, on_job, with_open_job}
use Rattle.harvest_sources.specs.declared.job.Job.{Job}
use Rattle.harvest_sources.specs.declared.job.JobState.TheVariants as state
use Rattle.harvest_sources.specs.declared.job.SourceReport.{SourceReport}
use Rattle.harvest_sources.specs.declared.listing.Listing.{Listing}
use Rattle.harvest_sources.specs.declared.step.Step.TheVariants.{End}
use Rattle.harvest_sources.specs.declared.step.StepReply.TheVariants.{Already, Ended}
use Rattle.harvest_stages.proofs.RestoreLemmas.{job_cmp_total}
use Rattle.harvest_pool.specs.Rounds.{report_of}
use Rattle.harvest_pool.specs.WholeRounds.{own_datasets, report_of_counts, report_on, source_read, with_job_ended}
use Rattle.harvest_pool.proofs.Done.{AllFit}
use Rattle.harvest_pool.proofs.GatheredLemmas.{failed_at, gathered-read}
use Rattle.harvest_pool.proofs.HarvestingLemmas.{Over, Reads, found, listed_source, next-runs, opened}
use Rattle.harvest_pool.proofs.PastLemmas.{Running, never-begins}
use Rattle.harvest_pool.proofs.StageLemmas.{begun_source}

-- ---- the job that ended

-- A job in place of another of its number, which is replaced, is in place of that number's first one.
job-again : (s : SourceState) (one next : Job) → HasItsJobs s → next.number ≡ one.number
    → upserted job_cmp next (upserted job_cmp one s.jobs) ≡ upserted job_cmp next s.jobs
job-again s one next fit same =
    ap (inserted job_cmp next)
    (filter-upserted_hidden job_cmp job_cmp_total (λ (j : Job). not (is_eq (job_cmp j next))) one s.jobs fit.ascending
    (ap (λ n. not (is_eq (nat_cmp one.number n))) same ∙ ap (λ r. not (is_eq r)) (tied_itself nat_cmp_total one.number))
    (λ j m like. ap (λ n. not (is_eq (nat_cmp j.number n))) same ∙ ap (λ r. not (is_eq r)) like))

-- A source whose running job ended is one whose open job did.
pub left-is : (s : SourceState) (job : Job) (report : SourceReport) → HasItsJobs s → open_job s ≡ Some job
    → with_job (with_report report (in_state state.Running job)) (with_listing None (begun_source job s))
    ≡ with_job_ended report s
left-is s job report fit opens =
    ap (λ (l : List Job). record (with_listing None s) { jobs = l })
    (job-again s (in_state state.Running job) (with_report report job) fit refl)
    ∙ sym (ap (λ (o : Option Job). option_map_or (λ j. with_job (with_report report j) (with_listing None s)) o s) opens)

-- A report that counts what a reading does, and has its bad IRIs, is the report on it.
report-is : (name : List ℕ) (old : List Package) (reading : CatalogueReading) (listing : Listing) (deleted : ℕ)
    (source : List ℕ) → source ≡ name
    → counts_in (finished_report source listing deleted) ≡ counts_of old reading
    → (finished_report source listing deleted).bad ≡ bad_of reading
    → finished_report source listing deleted ≡ report_of_counts name (counts_of old reading) reading
report-is name old reading listing deleted source named counts bad = λ i. record {
  source = named i;
  state = state.Finished;
  added = (counts i).added;
  updated = (counts i).updated;
  unchanged = (counts i).unchanged;
  deleted = (counts i).deleted;
  unnamed = (counts i).unnamed;
  bad = bad i;
}

module _ (documents : Documents) (before : HarvestState) (s : SourceState) (job : Job) (Told : SourceReport → Type 0)
    (jobs : HasItsJobs s) (opens : open_job s ≡ Some job) (is_id : id_of_job job ≡ job_id s.source.name job.number)
    (own : job.source ≡ s.source.name) (st : HarvestState) (fit : AllFit st)
    (fit_after : AllFit (after_step (End (id_of_job job)) st)) (w : Reads documents before s job st)
    (tells : (report : SourceReport) → report_of (change_of_step (End (id_of_job job)) st).reply ≡ Some report → Told report)
  where
    abbrev id : List ℕ
    id = id_of_job job

    abbrev name : List ℕ
    name = s.source.name

    abbrev old : List Package
    old = own_datasets name before.datasets

    abbrev u : SourceState
    u = listed_source w.listing job s

    abbrev deleted : ℕ
    deleted = count_deleted (effect_of (End id) st)

    abbrev report : SourceReport
    report = finished_report job.source w.listing deleted

    abbrev put : Stepped
    put = record {
      entries = PutListing name None ∷ PutJob (with_report report (in_state state.Running job)) ∷ [];
      reply = Ended report;
    }

    outcome : on_job Already (ended deleted) (with_open_job st.sources id)
        ≡ cond (list_all is_done w.listing.objects) put (idle Already)
    outcome =
        ap (on_job Already (ended deleted)) (found documents before s job Told jobs opens is_id st w.listing fit w.at)
        ∙ ap (λ (o : Option Job). option_map_or (ended deleted u) o (idle Already))
        (opened documents before s job Told jobs opens is_id)

    -- an object of it isn't done
    unended : on_job Already (ended deleted) (with_open_job st.sources id) ≡ idle Already
        → Reads documents before s job (after_step (End id) st)
    unended is =
        let at_after : source_named (after_step (End id) st).sources name ≡ Some u =
        ap (λ (p : Stepped). source_named (sources_after p.entries st.sources) name) is ∙ w.at in
        record {
          catalogue = w.catalogue;
          failed = w.failed;
          lists = w.lists;
          g = w.g;
          runs = subst (Running before s job (after_step (End id) st))
              (cond_same (is_accepted (change_of_step (End id) st).reply) w.g)
              (next-runs documents before s job Told jobs opens is_id (End id) st w.g u u fit fit_after w.at refl at_after
              refl (never-begins id st (End id) refl) w.runs);
          listing = w.listing;
          at = at_after;
          items = w.items;
          unnamed = w.unnamed;
          objects = w.objects;
          read = w.read;
        }

    module _ (done : list_all is_done w.listing.objects ≡ true)
        (is : on_job Already (ended deleted) (with_open_job st.sources id) ≡ put) where
      -- what was listed and settled, by the objects
      settling : IsSettling ⊥ s.source (datasets_of s.source w.runs.begun_in) w.g w.listing (datasets_of s.source st)
      settling = by w.runs.holds.phase
        where
          same : Some w.runs.holds.at ≡ Some u
          same = sym w.runs.holds.named ∙ w.at

          by : Phase ⊥ id s.source (datasets_of s.source w.runs.begun_in) w.g w.runs.holds.at (datasets_of s.source st)
              → IsSettling ⊥ s.source (datasets_of s.source w.runs.begun_in) w.g w.listing (datasets_of s.source st)
          by (Waits j opened_so named unlisted nothing alike) =
              let here : w.runs.holds.at ≡ u = cc in
              let no : Some w.listing ≡ None = ap (λ (t : SourceState). t.listing) (sym here) ∙ unlisted in
              absurd (cc)
          by (reads j l opened_so named listed_so so) =
              let here : w.runs.holds.at ≡ u = cc in
              let both : Some w.listing ≡ Some l = ap (λ (t : SourceState). t.listing) (sym here) ∙ listed_so in
              let alike : l ≡ w.listing = cc in
              subst (λ (m : Listing). IsSettling ⊥ s.source (datasets_of s.source w.runs.begun_in) w.g m
              (datasets_of s.source st)) alike so
          by (over none) =
              let here : w.runs.holds.at ≡ u = cc in
              let yes : open_job w.runs.holds.at ≡ Some (in_state state.Running job) =
              ap open_job here ∙ opened documents before s job Told jobs opens is_id in
              absurd (cc)

      read : reading_of s.source w.g ≡ source_read documents w.failed (failed_at w.g.settled) s.source
      read =
          gathered-read documents w.failed s.source w.catalogue w.lists (datasets_of s.source w.runs.begun_in) w.g
          w.listing (datasets_of s.source st) settling w.items w.unnamed w.read done

      reply : (change_of_step (End id) st).reply ≡ Ended report
      reply = ap (λ (p : Stepped). p.reply) is

      -- the same, in the last state of the history
      last_reply : (change_of_step (End id) (last_of w.runs.begun_in w.runs.past)).reply ≡ Ended report
      last_reply = ap (λ (last : HarvestState). (change_of_step (End id) last).reply) w.runs.now ∙ reply

      gathered_reading : reading_by s.source id w.runs.begun_in w.runs.past ≡ reading_of s.source w.g
      gathered_reading = ap (reading_of s.source) w.runs.gathers

      reported : report ≡ report_on name old (source_read documents w.failed (failed_at w.g.settled) s.source)
      reported =
          report-is name old (reading_of s.source w.g) w.listing deleted job.source own
          (report-counts s.source id w.runs.begun_in w.runs.past report w.runs.harvest w.runs.names last_reply
          ∙ ap₂ (λ (ds : List Package) (r : CatalogueReading). counts_of ds r) w.runs.old gathered_reading)
          (report-bad s.source id w.runs.begun_in w.runs.past report w.runs.harvest last_reply
          ∙ ap bad_of gathered_reading)
          ∙ ap (report_on name old) read

      ended-over : Over documents before s Told (after_step (End id) st)
      ended-over = record {
        failed = w.failed;
        has_failed = failed_at w.g.settled;
        left = with_job (with_report report (in_state state.Running job)) (with_listing None u);
        at = ap (λ (p : Stepped). source_named (sources_after p.entries st.sources) name) is
            ∙ named-changed name job.source (with_job (with_report report (in_state state.Running job)))
            (with_source_at name (with_listing None) st.sources) (with_listing None u) (λ t. refl)
            (named-changed name name (with_listing None) st.sources u (λ t. refl) w.at refl) own;
        closed = open-replaced u (in_state state.Running job) (with_report report (in_state state.Running job))
            (has_jobs st.sources fit.sources u (IsIn-named st.sources name u w.at).0)
            (opened documents before s job Told jobs opens is_id) refl;
        is = left-is s job report jobs opens ∙ ap (λ (r : SourceReport). with_job_ended r s) reported;
        datasets = ap (λ (last : HarvestState). datasets_of s.source (after_step (End id) last)) (sym w.runs.now)
            ∙ ended-leaves s.source id w.runs.begun_in w.runs.past w.runs.harvest
            (ap (λ r. is_accepted r) last_reply)
            ∙ ap₂ (λ (ds : List Package) (r : CatalogueReading). datasets_after ds r) w.runs.old gathered_reading
            ∙ ap (datasets_after old) read;
        told = subst Told reported (tells report (ap report_of reply));
      }

    -- The job ends, if all its objects are done.
    pub reads-ended : Reads documents before s job (after_step (End id) st)
        ⊎ Over documents before s Told (after_step (End id) st)
    reads-ended = by (list_all is_done w.listing.objects) refl
      where
        by : (b : Bool) → list_all is_done w.listing.objects ≡ b
            → Reads documents before s job (after_step (End id) st)
            ⊎ Over documents before s Told (after_step (End id) st)
        by true done =
            inr (ended-over done (outcome ∙ ap (λ (b : Bool). cond b put (idle Already)) done))
        by false undone = inl (unended (outcome ∙ ap (λ (b : Bool). cond b put (idle Already)) undone))
