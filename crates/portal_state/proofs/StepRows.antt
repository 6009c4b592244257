-- The changes of rows for a step of a harvest: they follow from the dataset that it puts, those that it drops and the job that
-- it ends, and lead from the rows of the state to those of the state after it.
use Rattle.std.proofs.Common.{◌≡◌, ℕ, ◌<◌, ◌^◌, Bool, true, false, not, ◌&&◌, List, [], ◌∷◌, ◌++◌, Option, Some, None}
use Rattle.std.proofs.Common.{map, ◌⊎◌, inl, inr, if◌then◌else◌, refl, sym, ap, ap₂, subst, ◌∙◌, All}
use Rattle.std.specs.Prelude.{find, is_some}
use Rattle.std.specs.List.{flat_map, list_all, list_any}
use Rattle.std.specs.Option.{option_map_or}
use Rattle.std.specs.Ordering.{is_eq}
use Rattle.std.specs.Str.{bytes_eq}
use Rattle.std.proofs.lemmas.List.{map-append}
use Rattle.std.proofs.lemmas.Map.Lookups.{exact_bytes}
use Rattle.std.proofs.lemmas.Map.Text.{is_eq-slice_cmp}
use Rattle.std.proofs.lemmas.Slice.Eq.{bytes_eq-Decides}
use Rattle.portal_base.specs.Json.{json_text}
use Rattle.portal_base.specs.Ordered.{found, upserted}
use Rattle.portal_base.proofs.Filtered.{IsIn-filter, filter-all, find-same}
use Rattle.portal_base.proofs.Removed.{is_eq_true}
use Rattle.portal_base.proofs.Unique.{IsIn}
use Rattle.portal_base.proofs.Upserted.{All-IsIn, All-each, upserted-IsIn}
use Rattle.packages.specs.Order.{dataset_cmp}
use Rattle.packages.specs.declared.package.Package.{Package}
use Rattle.packages.proofs.FindLemmas.{IsIn-find, IsIn-map, map-IsIn, none-find}
use Rattle.dataset_answers.specs.Changed.{dataset_at_id}
use Rattle.dataset_rows.specs.Rows.{row_text}
use Rattle.harvest_results.specs.Effects.{HarvestChange, effect_of, with_put, without}
use Rattle.harvest_results.proofs.CountLemmas.{list_any-IsIn}
use Rattle.harvest_rows.specs.Rows.{job_row, job_value, kept_report, source_row}
use Rattle.harvest_sources.specs.Entries.{PutJob, PutListing, SourceEntry, sources_after, with_job, with_listing}
use Rattle.harvest_sources.specs.Entries.{with_source_at}
use Rattle.harvest_sources.specs.Jobs.{blank_report, id_of_job, in_state, is_new, is_new_state, is_open, is_running}
use Rattle.harvest_sources.specs.Jobs.{is_running_state, job_cmp, with_report}
use Rattle.harvest_sources.specs.Listings.{finished_report, first_waiting, is_done, listing_of, with_all_released}
use Rattle.harvest_sources.specs.Listings.{with_progress}
use Rattle.harvest_sources.specs.Sources.{HasItsJobs, IsJobOf, SourceState, is_listed, open_job, source_at, source_named}
use Rattle.harvest_sources.specs.Steps.{Stepped, begun, broken, claimed, claimed_from, claimed_in, count_deleted, ended}
use Rattle.harvest_sources.specs.Steps.{ended_with, has_new, idle, is_accepted, is_unsettled, listed, on_job, open_ids}
use Rattle.harvest_sources.specs.Steps.{outcome_of, renewal, renewals, renewed, renewed_with, settled, settled_in, stepped}
use Rattle.harvest_sources.specs.Steps.{waiting_of}
use Rattle.harvest_sources.specs.declared.cause.Cause.{Cause}
use Rattle.harvest_sources.specs.declared.job.Job.{Job}
use Rattle.harvest_sources.specs.declared.job.JobState.{JobState}
use Rattle.harvest_sources.specs.declared.job.JobState.TheVariants.{New, Running, Finished, Broken}
use Rattle.harvest_sources.specs.declared.job.SourceReport.{SourceReport}
use Rattle.harvest_sources.specs.declared.listing.Listing.{Listing}
use Rattle.harvest_sources.specs.declared.listing.Outcome.{Outcome}
use Rattle.harvest_sources.specs.declared.listing.Progress.TheVariants.{Claimed, Done as is_done_as}
use Rattle.harvest_sources.specs.declared.source.HarvestSource.{HarvestSource}
use Rattle.harvest_sources.specs.declared.step.Effect.{Effect}
use Rattle.harvest_sources.specs.declared.step.Item.{Item}
use Rattle.harvest_sources.specs.declared.step.Step.{Step}
use Rattle.harvest_sources.specs.declared.step.Step.TheVariants.{NewRound, Begin, List as list, Break, Claim, Settle, End}
use Rattle.harvest_sources.specs.declared.step.StepReply.{StepReply}
use Rattle.harvest_sources.specs.declared.step.StepReply.TheVariants.{Started, Object, Nothing, Done, Ended, Already}
use Rattle.harvest_stages.specs.AtRest.{bare_sources}
use Rattle.harvest_stages.specs.Prepared.{itself_after}
use Rattle.harvest_stages.proofs.KeptLemmas.{AreKept, step_kept}
use Rattle.harvest_stages.proofs.StepLemmas.{AreOwn, after_own, all_renewed, open_is_own, renewed_source}
use Rattle.portal_keeper.specs.Changed.{rows_after}
use Rattle.portal_keeper.specs.Rows.{body_at}
use Rattle.portal_keeper.specs.declared.change.Change.{Change}
use Rattle.portal_keeper.specs.declared.change.Change.TheVariants.{Put}
use Rattle.portal_keeper.specs.declared.row.RowKind.{RowKind}
use Rattle.portal_keeper.specs.declared.row.RowKind.TheVariants as kind
use Rattle.portal_state.specs.ChangedRows.{changes_between, changes_if_open, changes_of_put, changes_of_reply}
use Rattle.portal_state.specs.ChangedRows.{changes_of_report, changes_of_step, dataset_body, removal_at_id}
use Rattle.portal_state.specs.Entries.{OfSources, PutDataset}
use Rattle.portal_state.specs.EntriesOf.{drop_of_dataset}
use Rattle.portal_state.specs.Harvest.{harvest_change, harvest_entries, harvest_of, put_of_dataset, state_after_step}
use Rattle.portal_state.specs.KeptRows.{AreSized, IsSized, kept_rows}
use Rattle.portal_state.specs.RowChanges.{step_row_changes}
use Rattle.portal_state.specs.State.{State}
use Rattle.portal_state.specs.Valid.{IsValid}
use Rattle.portal_state.proofs.ChangesFor.{changes_for, changes_for-++, changes_for-cons, changes_for-one, map-twice}
use Rattle.portal_state.proofs.DatasetRows.{body-upserted, dropped-changes}
use Rattle.portal_state.proofs.EffectiveChanges.{none-effective, rows_after-effective}
use Rattle.portal_state.proofs.EntryLemmas.{source-there}
use Rattle.portal_state.proofs.HarvestEntries.{gone-in, state_after-harvest, step-alone}
use Rattle.portal_state.proofs.InOrder.{kept_rows-in_order}
use Rattle.portal_state.proofs.RowBodies.{body-dataset, body-job, body-source}
use Rattle.portal_state.proofs.StepKeeping.{stepped_valid}

-- ---- rows that stay

-- Nothing leads from a body to the same one.
pub same-between : (kind : RowKind) (key body other : List ℕ) → body ≡ other
    → changes_between kind key (Some body) (Some other) ≡ []
same-between kind key body other same =
    ap (λ b. if b then [] else Put (record { kind = kind; key = key; body = other }) ∷ [])
    ((bytes_eq-Decides body other).1 same)

-- A new job has done nothing.
new-is : (state : JobState) → is_new_state state ≡ true → state ≡ New
new-is New e = refl
new-is Running e = absurd (cc)
new-is Finished e = absurd (cc)
new-is (Broken cause) e = absurd (cc)

kept-new : (job : Job) → is_new job ≡ true → job.report ≡ blank_report job.source job.report.state
    → kept_report job ≡ blank_report job.source New
kept-new job new blank =
    let now : job.report.state ≡ New = new-is job.report.state new in
    ap (λ (state : JobState). if is_running_state state then blank_report job.source New else job.report) now
    ∙ blank
    ∙ ap (blank_report job.source) now

-- A running job is kept as a new one.
kept-running : (job : Job) → is_running job ≡ true → kept_report job ≡ blank_report job.source New
kept-running job running = ap (λ b. if b then blank_report job.source New else job.report) running

-- So the row stays where a job of the one kind becomes one of the other.
body-kept : (job : Job) (state : JobState) → kept_report job ≡ blank_report job.source New
    → kept_report (in_state state job) ≡ blank_report job.source New
    → (job_row job).body ≡ (job_row (in_state state job)).body
body-kept job state one other =
    ap (λ (report : SourceReport). json_text (job_value job.created report)) (one ∙ sym other)

-- ---- sources after entries of their own

-- The source is there as its own entries make it.
own-there : (sources : List SourceState) (s : SourceState) (entries : List SourceEntry) → IsIn s sources
    → AreOwn s.source.name entries → IsIn (itself_after entries s) (sources_after entries sources)
own-there sources s entries m own =
    subst (λ (l : List SourceState). IsIn (itself_after entries s) l)
    (sym (after_own s.source.name entries sources own))
    (subst
    (λ b. IsIn (if b then itself_after entries s else s) (with_source_at s.source.name (itself_after entries) sources))
    ((bytes_eq-Decides s.source.name s.source.name).1 refl)
    (IsIn-map (λ (u : SourceState). if bytes_eq u.source.name s.source.name then itself_after entries u else u) s
    sources m))

-- The source is the one of its name.
named-there : (state : State) → IsValid state → (s : SourceState) → IsIn s state.sources
    → source_named state.sources s.source.name ≡ Some s
named-there state valid s m =
    find-same (λ (t : SourceState). bytes_eq t.source.name s.source.name)
    (λ (t : SourceState). is_eq (source_at s.source.name t))
    (λ t. sym (is_eq-slice_cmp t.source.name s.source.name)) state.sources
    ∙ source-there s.source.name state.sources s valid.sources.ascending m
    (is_eq-slice_cmp s.source.name s.source.name ∙ (bytes_eq-Decides s.source.name s.source.name).1 refl)

-- ---- one entry of a source

module _ (state new : State) (valid : IsValid state) (sized : IsSized state) (also : IsValid new)
    (also_sized : IsSized new) where
  -- An entry of a listing changes no row.
  listing-same : (s t : SourceState) (listing : Option Listing) → IsIn s state.sources → IsIn t new.sources
      → t.source ≡ s.source
      → changes_for (kept_rows state) (kept_rows new) (OfSources (PutListing s.source.name listing) ∷ []) ≡ []
  listing-same s t listing m n same =
      changes_for-one (kept_rows state) (kept_rows new) (OfSources (PutListing s.source.name listing))
      (Some (source_row s.source).body) (Some (source_row s.source).body)
      (body-source state valid sized s m)
      (subst (λ (h : HarvestSource). body_at (kept_rows new) kind.Source h.name ≡ Some (source_row h).body) same
      (body-source new also also_sized t n))
      ∙ same-between kind.Source s.source.name (source_row s.source).body (source_row s.source).body refl

  -- An entry of a job that gets a report changes the job's row as far as that one differs.
  report-changes : (s t : SourceState) (job : Job) (report : SourceReport) → IsIn s state.sources → IsIn job s.jobs
      → IsIn t new.sources → IsIn (with_report report job) t.jobs
      → changes_for (kept_rows state) (kept_rows new) (OfSources (PutJob (with_report report job)) ∷ [])
      ≡ changes_of_report report job
  report-changes s t job report m n k among =
      changes_for-one (kept_rows state) (kept_rows new) (OfSources (PutJob (with_report report job)))
      (Some (job_row job).body) (Some (job_row (with_report report job)).body)
      (body-job state valid sized s m job n)
      (body-job new also also_sized t k (with_report report job) among)

-- ---- the entries of a step on one source

-- What these entries change in rows is what the answer says.
abbrev GivesRows : State → Stepped → Type 0
GivesRows state outcome =
    (new : State) → IsValid new → IsSized new → new.sources ≡ sources_after outcome.entries state.sources
    → changes_for (kept_rows state) (kept_rows new) (map OfSources outcome.entries)
    ≡ changes_of_reply outcome.reply state.sources

module _ (state : State) (valid : IsValid state) (sized : IsSized state) (s : SourceState) (m : IsIn s state.sources)
    (job : Job) (is : open_job s ≡ Some job) where
  holds : HasItsJobs s
  holds = All-IsIn HasItsJobs state.sources valid.sources.jobs s m

  among : IsIn job s.jobs
  among = (IsIn-find is_open job s.jobs is).0

  own : job.source ≡ s.source.name
  own = open_is_own s job holds is

  -- After entries of its own the source is there so.
  there : (new : State) (entries : List SourceEntry) → new.sources ≡ sources_after entries state.sources
      → AreOwn s.source.name entries → IsIn (itself_after entries s) new.sources
  there new entries after owned =
      subst (λ (l : List SourceState). IsIn (itself_after entries s) l) (sym after)
      (own-there state.sources s entries m owned)

  listing-gives : (listing : Option Listing) (reply : StepReply) → changes_of_reply reply state.sources ≡ []
      → GivesRows state (record { entries = PutListing s.source.name listing ∷ []; reply = reply })
  listing-gives listing reply none new also also_sized after =
      listing-same state new valid sized also also_sized s (with_listing listing s) listing m
      (there new (PutListing s.source.name listing ∷ []) after (refl, tt)) refl
      ∙ sym none

  -- the row of the job that gets a report
  reported : (report : SourceReport) (new : State) → IsValid new → IsSized new
      → new.sources ≡ sources_after (PutJob (with_report report job) ∷ []) state.sources
      → changes_for (kept_rows state) (kept_rows new) (OfSources (PutJob (with_report report job)) ∷ [])
      ≡ changes_of_report report job
  reported report new also also_sized after =
      report-changes state new valid sized also also_sized s (with_job (with_report report job) s) job report m among
      (there new (PutJob (with_report report job) ∷ []) after (own, tt))
      (upserted-IsIn job_cmp (with_report report job) s.jobs)

  -- What an answer with the last report of the job says.
  ended-reply : (report : SourceReport) → report.source ≡ job.source
      → changes_of_reply (Ended report) state.sources ≡ changes_of_report report job
  ended-reply report same =
      ap (λ (name : List ℕ). changes_if_open report (source_named state.sources name)) (same ∙ own)
      ∙ ap (changes_if_open report) (named-there state valid s m)
      ∙ ap (λ (o : Option Job). option_map_or (changes_of_report report) o []) is

  begun-gives : has_new s ≡ true → GivesRows state (begun s job)
  begun-gives waits new also also_sized after =
      reported (blank_report job.source Running) new also also_sized after
      ∙ same-between kind.Job (id_of_job job) (job_row job).body (job_row (in_state Running job)).body
      (body-kept job Running (kept-new job is_new_job blank) refl)
    where
      is_new_job : is_new job ≡ true
      is_new_job = sym (ap (λ (o : Option Job). option_map_or is_new o false) is) ∙ waits

      blank : job.report ≡ blank_report job.source job.report.state
      blank =
          (All-IsIn (IsJobOf s.source) s.jobs holds.own job among).blank (IsIn-find is_open job s.jobs is).1
          ∙ ap (λ (name : List ℕ). blank_report name job.report.state) (sym own)

  listed-gives : (items : List Item) (unnamed : ℕ) → GivesRows state (listed items unnamed s job)
  listed-gives items unnamed = by (is_running job && not (is_listed s))
    where
      by : (b : Bool)
          → GivesRows state (if b then record {
            entries = PutListing s.source.name (Some (listing_of s.source.name items unnamed)) ∷ [];
            reply = Done;
          } else idle Already)
      by true = listing-gives (Some (listing_of s.source.name items unnamed)) Done refl
      by false = λ new also also_sized after. refl

  broken-gives : (cause : Cause) → GivesRows state (broken cause s job)
  broken-gives cause = by (is_running job && not (is_listed s))
    where
      by : (b : Bool)
          → GivesRows state (if b then record {
            entries = PutJob (in_state (Broken cause) job) ∷ [];
            reply = Ended (blank_report job.source (Broken cause));
          } else idle Already)
      by true =
          λ new also also_sized after. reported (blank_report job.source (Broken cause)) new also also_sized after
          ∙ sym (ended-reply (blank_report job.source (Broken cause)) refl)
      by false = λ new also also_sized after. refl

  claimed-gives : GivesRows state (claimed s job)
  claimed-gives = by s.listing
    where
      item : (listing : Listing) (o : Option Item)
          → GivesRows state (option_map_or (claimed_in s job listing) o (idle Nothing))
      item listing None = λ new also also_sized after. refl
      item listing (Some i) =
          listing-gives (Some (with_progress i.iri (Claimed i.found) listing)) (Object (id_of_job job) i) refl

      by : (o : Option Listing) → GivesRows state (claimed_from s job o)
      by None = λ new also also_sized after. refl
      by (Some listing) = item listing (first_waiting listing)

  settled-gives : (iri : List ℕ) (came : Outcome) → GivesRows state (settled iri came s job)
  settled-gives iri came = by s.listing
    where
      put : (listing : Listing) (b : Bool)
          → GivesRows state (if b then record {
            entries = PutListing s.source.name (Some (with_progress iri (is_done_as came) listing)) ∷ [];
            reply = Done;
          } else idle Already)
      put listing true = listing-gives (Some (with_progress iri (is_done_as came) listing)) Done refl
      put listing false = λ new also also_sized after. refl

      by : (o : Option Listing) → GivesRows state (settled_in iri came s o)
      by None = λ new also also_sized after. refl
      by (Some listing) = put listing (is_unsettled iri listing)

  -- The listing goes, and the job gets its last report.
  finished-gives : (report : SourceReport) → report.source ≡ job.source
      → GivesRows state (record {
        entries = PutListing s.source.name None ∷ PutJob (with_report report job) ∷ [];
        reply = Ended report;
      })
  finished-gives report same new also also_sized after =
      let last : SourceState = with_job (with_report report job) (with_listing None s) in
      let n : IsIn last new.sources =
      there new (PutListing s.source.name None ∷ PutJob (with_report report job) ∷ []) after (refl, (own, tt)) in
      changes_for-cons (kept_rows state) (kept_rows new) (OfSources (PutListing s.source.name None))
      (OfSources (PutJob (with_report report job)) ∷ []) [] (changes_of_report report job)
      (listing-same state new valid sized also also_sized s last None m n refl)
      (report-changes state new valid sized also also_sized s last job report m among n
      (upserted-IsIn job_cmp (with_report report job) s.jobs))
      ∙ sym (ended-reply report same)

  ended-gives : (deleted : ℕ) → GivesRows state (ended deleted s job)
  ended-gives deleted = by s.listing
    where
      put : (listing : Listing) (b : Bool)
          → GivesRows state (if b then record {
            entries =
                PutListing s.source.name None ∷ PutJob (with_report (finished_report job.source listing deleted) job) ∷ [];
            reply = Ended (finished_report job.source listing deleted);
          } else idle Already)
      put listing true = finished-gives (finished_report job.source listing deleted) refl
      put listing false = λ new also also_sized after. refl

      by : (o : Option Listing) → GivesRows state (ended_with deleted s job o)
      by None = λ new also also_sized after. refl
      by (Some listing) = put listing (list_all is_done listing.objects)

-- ---- the entries of a new round

module _ (state new : State) (valid : IsValid state) (sized : IsSized state) (also : IsValid new)
    (also_sized : IsSized new) (after : new.sources ≡ map renewed state.sources) where
  renewed-there : (s : SourceState) → IsIn s state.sources → IsIn (renewed s) new.sources
  renewed-there s m =
      subst (λ (l : List SourceState). IsIn (renewed s) l) (sym after) (IsIn-map renewed s state.sources m)

  -- The renewals of a source change no row.
  renewals-same : (s : SourceState) → IsIn s state.sources
      → changes_for (kept_rows state) (kept_rows new) (map OfSources (renewals s)) ≡ []
  renewals-same s m = by s.listing refl (open_job s) refl
    where
      run : (job : Job) → s.listing ≡ None → open_job s ≡ Some job → (b : Bool) → is_running job ≡ b
          → changes_for (kept_rows state) (kept_rows new)
          (map OfSources (if b then PutJob (in_state New job) ∷ [] else [])) ≡ []
      run job none is true running =
          report-changes state new valid sized also also_sized s (renewed s) job (blank_report job.source New) m
          (IsIn-find is_open job s.jobs is).0 (renewed-there s m)
          (subst (λ (t : SourceState). IsIn (in_state New job) t.jobs)
          (sym (ap (λ (l : Option Listing). renewed_with s l (open_job s)) none
          ∙ ap (renewed_with s None) is
          ∙ ap (λ b. if b then with_job (in_state New job) s else s) running))
          (upserted-IsIn job_cmp (in_state New job) s.jobs))
          ∙ same-between kind.Job (id_of_job job) (job_row job).body (job_row (in_state New job)).body
          (body-kept job New (kept-running job running) refl)
      run job none is false running = refl

      by : (l : Option Listing) → s.listing ≡ l → (o : Option Job) → open_job s ≡ o
          → changes_for (kept_rows state) (kept_rows new) (map OfSources (renewal s l o)) ≡ []
      by l none None is = refl
      by (Some listing) none (Some job) is =
          listing-same state new valid sized also also_sized s (renewed s) (Some (with_all_released listing)) m
          (renewed-there s m) (renewed_source s)
      by None none (Some job) is = run job none is (is_running job) refl

  round-same : (some : List SourceState) → ((s : SourceState) → IsIn s some → IsIn s state.sources)
      → changes_for (kept_rows state) (kept_rows new) (map OfSources (flat_map renewals some)) ≡ []
  round-same [] within = refl
  round-same (s ∷ some) within =
      ap (changes_for (kept_rows state) (kept_rows new))
      (map-append OfSources (renewals s) (flat_map renewals some))
      ∙ changes_for-++ (kept_rows state) (kept_rows new) (map OfSources (renewals s))
      (map OfSources (flat_map renewals some))
      ∙ ap₂ (λ (l k : List Change). l ++ k) (renewals-same s (within s (inl refl)))
      (round-same some (λ t n. within t (inr n)))

round-gives : (state : State) → IsValid state → IsSized state
    → GivesRows state (record {
      entries = flat_map renewals state.sources;
      reply = Started (open_ids state.sources);
    })
round-gives state valid sized new also also_sized after =
    round-same state new valid sized also also_sized
    (after ∙ all_renewed state.sources valid.sources.ascending
    (λ s m. All-IsIn HasItsJobs state.sources valid.sources.jobs s m))
    state.sources (λ s m. m)

-- ---- the entries of every step

-- The step on the open job of the source that is found.
found-gives : (state : State) (p : SourceState → Bool) (otherwise : StepReply) (step : SourceState → Job → Stepped)
    → changes_of_reply otherwise state.sources ≡ []
    → ((s : SourceState) → IsIn s state.sources → p s ≡ true → (job : Job) → open_job s ≡ Some job
    → GivesRows state (step s job))
    → GivesRows state (on_job otherwise step (find p state.sources))
found-gives state p otherwise step none each = by (find p state.sources) refl
  where
    with_open : (s : SourceState) → IsIn s state.sources → p s ≡ true → (o : Option Job) → open_job s ≡ o
        → GivesRows state (option_map_or (step s) o (idle otherwise))
    with_open s m passes None is = λ new also also_sized after. sym none
    with_open s m passes (Some job) is = each s m passes job is

    by : (o : Option SourceState) → find p state.sources ≡ o → GivesRows state (on_job otherwise step o)
    by None is = λ new also also_sized after. sym none
    by (Some s) is =
        let there = IsIn-find p s state.sources is in with_open s there.0 there.1 (open_job s) refl

-- the source's open job has that id
abbrev has_job : List ℕ → SourceState → Bool
has_job id s = option_map_or (λ job. bytes_eq (id_of_job job) id) (open_job s) false

step-gives : (step : Step) (effect : Effect) (state : State) → IsValid state → IsSized state
    → GivesRows state (stepped step effect state.sources)
step-gives NewRound effect state valid sized = round-gives state valid sized
step-gives Begin effect state valid sized =
    found-gives state has_new Nothing begun refl
    (λ s m waits job is. begun-gives state valid sized s m job is waits)
step-gives (list id items unnamed) effect state valid sized =
    found-gives state (has_job id) Already (listed items unnamed) refl
    (λ s m has job is. listed-gives state valid sized s m job is items unnamed)
step-gives (Break id cause) effect state valid sized =
    found-gives state (has_job id) Already (broken cause) refl
    (λ s m has job is. broken-gives state valid sized s m job is cause)
step-gives Claim effect state valid sized =
    found-gives state (λ s. is_some (waiting_of s)) Nothing claimed refl
    (λ s m waits job is. claimed-gives state valid sized s m job is)
step-gives (Settle id iri reading) effect state valid sized =
    found-gives state (has_job id) Already (settled iri (outcome_of reading effect)) refl
    (λ s m has job is. settled-gives state valid sized s m job is iri (outcome_of reading effect))
step-gives (End id) effect state valid sized =
    found-gives state (has_job id) Already (ended (count_deleted effect)) refl
    (λ s m has job is. ended-gives state valid sized s m job is (count_deleted effect))

-- ---- datasets

none-either : (b : Bool) (d : Option Package) → d ≡ None → (if b then d else None) ≡ None
none-either true d none = none
none-either false d none = refl

empty-either : (b : Bool) (gone : List Package) → gone ≡ [] → (if b then gone else []) ≡ []
empty-either true gone none = none
empty-either false gone none = refl

-- A step puts no dataset or drops none.
put-or-gone : (step : Step) (state : State)
    → ((harvest_change step state).gone ≡ []) ⊎ ((harvest_change step state).put ≡ None)
put-or-gone NewRound state = inl (empty-either (is_accepted (harvest_change NewRound state).reply) [] refl)
put-or-gone Begin state = inl (empty-either (is_accepted (harvest_change Begin state).reply) [] refl)
put-or-gone (list id items unnamed) state =
    inl (empty-either (is_accepted (harvest_change (list id items unnamed) state).reply) [] refl)
put-or-gone (Break id cause) state =
    inl (empty-either (is_accepted (harvest_change (Break id cause) state).reply) [] refl)
put-or-gone Claim state = inl (empty-either (is_accepted (harvest_change Claim state).reply) [] refl)
put-or-gone (Settle id iri reading) state =
    inl (empty-either (is_accepted (harvest_change (Settle id iri reading) state).reply) [] refl)
put-or-gone (End id) state = inr (none-either (is_accepted (harvest_change (End id) state).reply) None refl)

-- No dataset is left at the id of one that goes.
none-left : (d : Package) (gone datasets : List Package) → IsIn d gone
    → found (dataset_at_id d.id) (without gone datasets) ≡ None
none-left d gone datasets m =
    none-find (λ (e : Package). is_eq (dataset_at_id d.id e)) (without gone datasets)
    (λ e n. apart e (IsIn-filter stays e datasets n).1 (is_eq (dataset_at_id d.id e)) refl)
  where
    stays : Package → Bool
    stays e = not (list_any (λ (other : Package). bytes_eq other.id e.id) gone)

    apart : (e : Package) → stays e ≡ true → (b : Bool) → is_eq (dataset_at_id d.id e) ≡ b → b ≡ false
    apart e stay false is = refl
    apart e stay true is =
        let same : e.id ≡ d.id = exact_bytes e.id d.id (is_eq_true (dataset_at_id d.id e) is) in
        let goes : list_any (λ (other : Package). bytes_eq other.id e.id) gone ≡ true =
        list_any-IsIn (λ (other : Package). bytes_eq other.id e.id) d gone m
        ((bytes_eq-Decides d.id e.id).1 (sym same)) in
        let left : false ≡ true = sym (ap not goes) ∙ stay in
        absurd (cc)

without-none : (datasets : List Package) → without [] datasets ≡ datasets
without-none datasets = filter-all (λ (d : Package). true) datasets (λ d m. refl)

module _ (state new : State) (valid : IsValid state) (sized : IsSized state) (also : IsValid new)
    (also_sized : IsSized new) (put : Option Package) (gone : List Package)
    (made : new.datasets ≡ without gone (with_put put state.datasets)) where
  put-changes : (d : Package) → put ≡ Some d → gone ≡ []
      → changes_for (kept_rows state) (kept_rows new) (PutDataset d ∷ []) ≡ changes_of_put (Some d) state.datasets
  put-changes d is none =
      changes_for-one (kept_rows state) (kept_rows new) (PutDataset d) (dataset_body d.id state.datasets)
      (Some (row_text d))
      (body-dataset state valid sized d.id)
      (body-dataset new also also_sized d.id
      ∙ ap (dataset_body d.id)
      (made
      ∙ ap₂ (λ (l : List Package) (o : Option Package). without l (with_put o state.datasets)) none is
      ∙ without-none (upserted dataset_cmp d state.datasets))
      ∙ body-upserted d state.datasets)

  put-changes_if : (gone ≡ []) ⊎ (put ≡ None)
      → changes_for (kept_rows state) (kept_rows new) (put_of_dataset put) ≡ changes_of_put put state.datasets
  put-changes_if either = by put refl either
    where
      by : (o : Option Package) → put ≡ o → (gone ≡ []) ⊎ (put ≡ None)
          → changes_for (kept_rows state) (kept_rows new) (put_of_dataset o) ≡ changes_of_put o state.datasets
      by None is one = refl
      by (Some d) is (inl none) = put-changes d is none
      by (Some d) is (inr none) = let never : Some d ≡ None = sym is ∙ none in absurd (cc)

-- ---- sizes

-- The numbers of the next jobs stay `u64`s where the sources stay the same beside their jobs.
small-bare : (sources others : List SourceState) → bare_sources others ≡ bare_sources sources
    → All (λ (s : SourceState). s.source.next_job < 2 ^ 64) sources
    → All (λ (s : SourceState). s.source.next_job < 2 ^ 64) others
small-bare sources others same small =
    All-each (λ (s : SourceState). s.source.next_job < 2 ^ 64) others
    (λ s m. let w = map-IsIn (λ (t : SourceState). t.source) s.source sources
    (subst (λ (l : List HarvestSource). IsIn s.source l) same (IsIn-map (λ (t : SourceState). t.source) s others m)) in
    subst (λ (h : HarvestSource). h.next_job < 2 ^ 64) (sym w.2)
    (All-IsIn (λ (t : SourceState). t.source.next_job < 2 ^ 64) sources small w.0 w.1))

-- the entries of sources and jobs keep the sources
abbrev KeepsAll : Step → State → Type 0
KeepsAll step state = AreKept state.sources (harvest_change step state).entries

kept-all : (step : Step) (state : State) → IsValid state → KeepsAll step state
kept-all step state valid = step_kept step (effect_of step (harvest_of state)) state.sources valid.sources

-- The state after a step is sized.
pub step-sized : (step : Step) (state : State) → IsValid state → IsSized state → IsSized (state_after_step step state)
step-sized step state valid sized =
    let made = state_after-harvest (harvest_change step state) state in
    record {
      tables = subst AreSized (sym (ap (λ (u : State). u.tables) made)) sized.tables;
      next_jobs = subst (All (λ (s : SourceState). s.source.next_job < 2 ^ 64))
          (sym (ap (λ (u : State). u.sources) made))
          (small-bare state.sources (sources_after (harvest_change step state).entries state.sources)
          (kept-all step state valid).same sized.next_jobs);
    }

-- ---- the changes for a step

-- They are those for the dataset that it puts, for those that it drops, and for the job that it ends.
pub step-changes : (step : Step) (state : State) → IsValid state → IsSized state
    → step_row_changes step state
    ≡ changes_of_step (harvest_change step state).put (map (λ d. d.id) (harvest_change step state).gone)
    (harvest_change step state).reply state.sources state.datasets
step-changes step state valid sized =
    changes_for-++ (kept_rows state) (kept_rows new) (put_of_dataset change.put ++ map drop_of_dataset change.gone)
    (map OfSources change.entries)
    ∙ ap₂ (λ (l k : List Change). l ++ k)
    (changes_for-++ (kept_rows state) (kept_rows new) (put_of_dataset change.put) (map drop_of_dataset change.gone)
    ∙ ap₂ (λ (l k : List Change). l ++ k)
    (put-changes_if state new valid sized also also_sized change.put change.gone (ap (λ (u : State). u.datasets) made)
    (put-or-gone step state))
    (dropped-changes change.gone state new valid sized also also_sized (λ d m. (gone-in step state valid d m).0)
    (λ d m. ap (λ (u : State). found (dataset_at_id d.id) u.datasets) made
    ∙ none-left d change.gone (with_put change.put state.datasets) m)
    ∙ sym (map-twice removal_at_id (λ (d : Package). d.id) change.gone)))
    (step-gives step (effect_of step (harvest_of state)) state valid sized new also also_sized
    (ap (λ (u : State). u.sources) made))
  where
    change : HarvestChange
    change = harvest_change step state

    new : State
    new = state_after_step step state

    also : IsValid new
    also = stepped_valid step state valid

    also_sized : IsSized new
    also_sized = step-sized step state valid sized

    made : new
        ≡ record state {
          datasets = without change.gone (with_put change.put state.datasets);
          sources = sources_after change.entries state.sources;
        }
    made = state_after-harvest change state

-- ---- what they lead to

-- The changes lead from the rows of the state to those of the state after the step.
pub step-follow : (step : Step) (state : State) → IsValid state → IsSized state → IsSized (state_after_step step state)
    → rows_after (step_row_changes step state) (kept_rows state) ≡ kept_rows (state_after_step step state)
step-follow step state valid sized also_sized =
    rows_after-effective (harvest_entries step state) state valid.tables.ascending valid.sources
    (step-alone step state valid) (kept_rows-in_order state valid sized)
    (kept_rows-in_order (state_after_step step state) (stepped_valid step state valid) also_sized)

-- If the rows stay the same, there is no change of them.
pub step-none : (step : Step) (state : State) → kept_rows (state_after_step step state) ≡ kept_rows state
    → step_row_changes step state ≡ []
step-none step state same =
    none-effective (harvest_entries step state) state (state_after_step step state) (sym same)
