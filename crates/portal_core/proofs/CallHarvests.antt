-- What calls leave of harvests: running jobs, and the datasets of sources that stay.
use Rattle.std.proofs.Common.{◌≡◌, ◌≢◌, ℕ, Bool, true, false, not, cond, List, [], Option, Some, None, is_some, refl}
use Rattle.std.proofs.Common.{sym, ap, ◌∙◌, subst, inl, inr, ◌⊎◌, true≢false}
use Rattle.std.specs.Prelude.{ℤ, ◌+◌, IsSome, filter, find, if◌then◌else◌}
use Rattle.std.specs.Ordering.{is_eq}
use Rattle.std.specs.Str.{bytes_eq}
use Rattle.std.proofs.lemmas.Map.Text.{is_eq-slice_cmp}
use Rattle.std.proofs.lemmas.Slice.Eq.{bytes_eq-Decides}
use Rattle.portal_base.specs.declared.caller.Caller.{Caller}
use Rattle.portal_base.specs.declared.caller.Caller.TheVariants.{Anonymous, Named}
use Rattle.portal_base.specs.Ordered.{dropped}
use Rattle.portal_base.proofs.Filtered.{IsIn-filter, filter-all, filter-filter}
use Rattle.portal_base.proofs.Unique.{IsIn, IsIn-Contains}
use Rattle.portal_base.proofs.Upserted.{All-IsIn, IsIn-dropped, IsIn-upserted, filter-dropped_hidden, found-dropped}
use Rattle.packages.proofs.FindLemmas.{fails, map-IsIn}
use Rattle.packages.specs.Order.{dataset_cmp, dataset_cmp_total}
use Rattle.packages.specs.declared.package.Package.{Package}
use Rattle.visibility.specs.Visibility.{is_harvested, is_source}
use Rattle.dataset_answers.specs.Changed.{changed_datasets, dataset_at_id}
use Rattle.dataset_answers.specs.Edits.{Origin}
use Rattle.dataset_answers.specs.Fit.{IsFitDataset}
use Rattle.dataset_answers.specs.declared.change.DatasetChange.{DatasetChange}
use Rattle.dataset_answers.specs.declared.change.DatasetChange.TheVariants as dataset
use Rattle.datastore_answers.specs.Summaries.{summaries_of}
use Rattle.datastore_answers.specs.TableAnswers.{map_answer}
use Rattle.harvest_answers.specs.Fit.{IsFitSource}
use Rattle.harvest_results.specs.Effects.{HarvestState, is_of_source}
use Rattle.harvest_results.proofs.ChangeLemmas.{put-apart}
use Rattle.harvest_results.proofs.SourceEntryLemmas.{same_bytes, same_member}
use Rattle.harvest_sources.specs.Entries.{PutSource, added_job, changed_by, changed_sources, fault_if_open}
use Rattle.harvest_sources.specs.Entries.{sources_after, updated_source, with_job, with_jobs_of}
use Rattle.harvest_sources.specs.Jobs.{is_running, job_cmp, new_job}
use Rattle.harvest_sources.specs.Sources.{AreSources, HasItsJobs, SourceState, open_job, source_at, source_cmp}
use Rattle.harvest_sources.specs.Sources.{source_named}
use Rattle.harvest_sources.specs.declared.change.SourceChange.{SourceChange}
use Rattle.harvest_sources.specs.declared.change.SourceChange.TheVariants as source
use Rattle.harvest_sources.specs.declared.change.StageFault.{StageFault}
use Rattle.harvest_sources.specs.declared.change.StageFault.TheVariants.{NotFinished}
use Rattle.harvest_sources.specs.declared.job.Job.{Job}
use Rattle.harvest_sources.specs.declared.source.HarvestSource.{HarvestSource}
use Rattle.portal_calls.specs.Answer.{AcceptsOnly}
use Rattle.portal_calls.specs.declared.answer.Answer.{Answer}
use Rattle.portal_calls.specs.declared.answer.Answer.TheVariants.{Shown, Refused, Accepted}
use Rattle.portal_calls.specs.declared.call.Call.{Call}
use Rattle.portal_state.specs.Answer.{call_view_of, planned_answer}
use Rattle.portal_state.specs.Changed.{AreUnused, changed, charged, is_in_use}
use Rattle.portal_state.specs.Fit.{IsFit}
use Rattle.portal_state.specs.Harvest.{harvest_of}
use Rattle.portal_state.specs.Known.{known_call}
use Rattle.portal_state.specs.Planned.{PlannedChange, People, Datasets, Tables, Sources, change_of, claims_of}
use Rattle.portal_state.specs.Planned.{claims_of_sources}
use Rattle.portal_state.specs.State.{State}
use Rattle.portal_state.specs.Step.{call_step, outcome_of, outcome_unless_in_use}
use Rattle.portal_state.specs.Valid.{IsValid}
use Rattle.portal_state.specs.View.{view_of}
use Rattle.portal_state.specs.declared.change.Claim.{Claim}
use Rattle.portal_state.specs.declared.change.Claim.TheVariants.{SourceName}
use Rattle.portal_state.proofs.Answering.{answer_fit}
use Rattle.portal_state.proofs.ChangeEntries.{applied-planned}
use Rattle.portal_state.proofs.Harvested.{edited-made, made-id_apart, of-source_harvested, sound-harvested, sound-in}
use Rattle.portal_core.proofs.JobRuns.{runs-current}
use Rattle.portal_state.proofs.Keeping.{first_unused, fit_in_valid}
use Rattle.portal_state.proofs.SourceKeeping.{added-sources, named-in, removed-sources, replaced-sources}
use Rattle.portal_state.proofs.SourceViews.{found-named}

-- ---- what a call comes to

charged-harvest : (caller : Caller) (size : ℕ) (state : State)
    → harvest_of (charged caller size state) ≡ harvest_of state
charged-harvest Anonymous size state = refl
charged-harvest (Named user) size state = refl

answered-kept : (Q : HarvestState → Type 0) (answer : Answer PlannedChange) (call : Call) (state : State)
    → IsValid state → AcceptsOnly (IsFit call (view_of call.caller state)) answer → Q (harvest_of state)
    → ((planned : PlannedChange) → IsFit call state planned → AreUnused state (claims_of planned)
    → Q (harvest_of (changed planned state)))
    → Q (harvest_of
    (outcome_of (map_answer (λ planned. change_of planned (view_of call.caller state)) answer) call state).core)
answered-kept Q (Shown json) call state valid fit same made_so = same
answered-kept Q (Refused denial) call state valid fit same made_so = same
answered-kept Q (Accepted json planned) call state valid fit same made_so =
    by (find (is_in_use state) (claims_of planned)) refl
  where
    by : (claim : Option Claim) → find (is_in_use state) (claims_of planned) ≡ claim
        → Q (harvest_of
        (outcome_unless_in_use claim call json (change_of planned (view_of call.caller state)) state).core)
    by (Some c) is = same
    by None is =
        subst Q
        (sym (ap harvest_of (applied-planned planned call state valid fit)
        ∙ charged-harvest call.caller call.size (changed planned state)))
        (made_so planned (fit_in_valid planned call state valid fit) is)

-- What holds of a harvest's state and after each planned change that is fit and claims nothing in use, holds after a call.
pub call-kept : (Q : HarvestState → Type 0) (state : State) (call : Call) → IsValid state → Q (harvest_of state)
    → ((known : Call) (planned : PlannedChange) → IsFit known state planned → AreUnused state (claims_of planned)
    → Q (harvest_of (changed planned state)))
    → Q (harvest_of (call_step state call).core)
call-kept Q state call valid same made_so =
    let known : Call = known_call state.people call in
    answered-kept Q (planned_answer known (view_of known.caller state)) known state valid
    (answer_fit known (view_of known.caller state)) same (made_so known)

-- ---- the datasets of a source

-- a dataset that wasn't harvested is of no source
made-apart : (d : Package) (name : List ℕ) → name ≢ [] → is_harvested d ≡ false → d.source ≢ name
made-apart d name named is_made is = true≢false (sym (of-source_harvested d name named is) ∙ is_made)

-- some source of that name
abbrev some_source : List ℕ → HarvestSource
some_source name = record { name = name; title = []; url = []; owner_org = []; next_job = 0 }

-- no two datasets have one id
same-dataset : (d e : Package) (state : State) → IsValid state → IsIn d state.datasets → IsIn e state.datasets
    → d.id ≡ e.id → d ≡ e
same-dataset d e state valid m n same =
    same_member dataset_cmp dataset_cmp_total d e state.datasets valid.datasets m n (same_bytes d.id e.id same)

-- A change of datasets leaves those of a source.
dataset-left : (name : List ℕ) (change : DatasetChange) (call : Call) (state : State) → IsValid state → name ≢ []
    → IsFitDataset (call_view_of call state) (summaries_of state.tables) change
    → filter (is_of_source name) (changed_datasets change state.datasets)
    ≡ filter (is_of_source name) state.datasets
dataset-left name (dataset.Create d) call state valid named fit =
    put-apart (some_source name) d state.datasets valid.datasets
    (made-apart d name named fit.sound.not_harvested)
    (λ e m same is.
    let from = sound-harvested state.people state.sources e valid.sources (sound-in state e valid m)
    (of-source_harvested e name named is) in
    made-id_apart state.people d from.source.source.name e.iri fit.sound
    (sym same ∙ from.own.id_is_name ∙ from.own.named))
dataset-left name (dataset.Replace d) call state valid named fit =
    let old_made : is_harvested fit.old ≡ false = edited-made state.people call.caller fit.old fit.own in
    let same_source : fit.old.source ≡ d.source = ap (λ (o : Origin). o.source) fit.origin in
    let there = IsIn-Contains fit.old state.datasets fit.is_present in
    put-apart (some_source name) d state.datasets valid.datasets
    (made-apart d name named (ap is_source (sym same_source) ∙ old_made))
    (λ e m same is.
    made-apart fit.old name named old_made
    (ap (λ (p : Package). p.source) (sym (same-dataset e fit.old state valid m there (same ∙ sym fit.id))) ∙ is))
dataset-left name (dataset.Remove id) call state valid named fit =
    let there = IsIn-Contains fit.old state.datasets fit.is_present in
    filter-dropped_hidden (is_of_source name) (dataset_at_id id) state.datasets
    (λ d m like.
    let has_id : d.id ≡ id =
    (bytes_eq-Decides d.id id).0 (sym (is_eq-slice_cmp d.id id) ∙ ap is_eq like) in
    fails (is_of_source name d)
    (λ is. made-apart fit.old name named fit.not_harvested
    (ap (λ (p : Package). p.source) (sym (same-dataset d fit.old state valid m there (has_id ∙ sym fit.id)))
    ∙ (bytes_eq-Decides d.source name).0 is)))

-- A source of another name is gone.
gone-name : (name other : List ℕ) (sources : List SourceState)
    → IsSome (source_named (changed_sources (source.Remove other) sources) name) → name ≢ other
gone-name name other sources there same =
    true≢false (sym there
    ∙ ap (λ (l : List SourceState). is_some (source_named l name)) (removed-sources other sources)
    ∙ ap (λ (n : List ℕ). is_some (source_named (dropped (source_at other) sources) n)) same
    ∙ ap (λ (o : Option SourceState). is_some o)
    (sym (found-named (dropped (source_at other) sources) other) ∙ found-dropped (source_at other) sources))

-- A change of sources leaves the datasets of those that stay.
source-left : (name : List ℕ) (change : SourceChange) (state : State)
    → IsSome (source_named (changed_sources change state.sources) name)
    → filter (is_of_source name) (changed (Sources change) state).datasets
    ≡ filter (is_of_source name) state.datasets
source-left name (source.Create new) state there = refl
source-left name (source.Update other title url) state there = refl
source-left name (source.Remove other) state there =
    filter-filter (is_of_source name) (λ d. not (is_of_source other d)) state.datasets
    ∙ filter-all (λ d. not (is_of_source other d)) (filter (is_of_source name) state.datasets)
    (λ d m. let here = IsIn-filter (is_of_source name) d state.datasets m in
    ap not (fails (is_of_source other d)
    (λ is. gone-name name other state.sources there
    (sym ((bytes_eq-Decides d.source name).0 here.1) ∙ (bytes_eq-Decides d.source other).0 is))))
source-left name (source.AddJob other created) state there = refl

planned-left : (name : List ℕ) (planned : PlannedChange) (call : Call) (state : State) → IsValid state → name ≢ []
    → IsFit call state planned → IsSome (source_named (changed planned state).sources name)
    → filter (is_of_source name) (changed planned state).datasets ≡ filter (is_of_source name) state.datasets
planned-left name (People change) call state valid named fit there = refl
planned-left name (Datasets change) call state valid named fit there =
    dataset-left name change call state valid named fit
planned-left name (Tables change) call state valid named fit there = refl
planned-left name (Sources change) call state valid named fit there = source-left name change state there

-- A call leaves the datasets of each source that is there after it.
pub call-left : (state : State) (call : Call) (name : List ℕ) → IsValid state → name ≢ []
    → IsSome (source_named (call_step state call).core.sources name)
    → filter (is_of_source name) (call_step state call).core.datasets ≡ filter (is_of_source name) state.datasets
call-left state call name valid named =
    call-kept (λ (h : HarvestState). IsSome (source_named h.sources name)
    → filter (is_of_source name) h.datasets ≡ filter (is_of_source name) state.datasets) state call valid
    (λ there. refl) (λ known planned fit unused there. planned-left name planned known state valid named fit there)

-- ---- running jobs

-- a job that runs in these sources runs in the same source among those
abbrev RunsOn : List SourceState → List SourceState → Type 0
RunsOn after before =
    (t : SourceState) (job : Job) → IsIn t after → IsIn job t.jobs → is_running job ≡ true → IsIn t before

-- a source without a fault has no open job
ended-so : (s : SourceState) → fault_if_open (Some s) ≡ None → open_job s ≡ None
ended-so s none = by (open_job s) none
  where
    by : (o : Option Job) → cond {A = Option StageFault} (is_some o) (Some NotFinished) None ≡ None → o ≡ None
    by None is = refl
    by (Some job) is = absurd (cc)

-- Where a source without an open job is put anew, a running job is one of another source.
put-runs : (new : HarvestSource) (s : SourceState) (sources : List SourceState)
    → source_named sources new.name ≡ Some s → HasItsJobs s → open_job s ≡ None → (t : SourceState) (job : Job)
    → IsIn t (changed_by (PutSource new) sources) → IsIn job t.jobs → is_running job ≡ true
    → IsIn t sources × (bytes_eq t.source.name new.name ≡ false)
put-runs new s sources is holds ended t job m own runs =
    by (IsIn-upserted source_cmp (with_jobs_of new (Some s)) t sources
    (subst (IsIn t) (replaced-sources new s sources is) m))
  where
    by : (t ≡ with_jobs_of new (Some s))
        ⊎ (IsIn t sources × (is_eq (source_cmp t (with_jobs_of new (Some s))) ≡ false))
        → IsIn t sources × (bytes_eq t.source.name new.name ≡ false)
    by (inl same) =
        let current : open_job s ≡ Some job =
        runs-current s job holds (subst (λ (u : SourceState). IsIn job u.jobs) same own) runs in
        absurd (cc)
    by (inr old) = (old.0, sym (is_eq-slice_cmp t.source.name new.name) ∙ old.1)

module _ (sources : List SourceState) (was : AreSources sources) (name : List ℕ) (s : SourceState)
    (is : source_named sources name ≡ Some s) (ended : open_job s ≡ None) where
  its-jobs : HasItsJobs s
  its-jobs = All-IsIn HasItsJobs sources was.jobs s (named-in sources name s is).0

  own-found : source_named sources s.source.name ≡ Some s
  own-found = ap (source_named sources) (named-in sources name s is).1 ∙ is

  updated-runs : (title url : List ℕ) → RunsOn (sources_after (updated_source title url (Some s)) sources) sources
  updated-runs title url t job m own runs =
      (put-runs (record s.source { title = title; url = url }) s sources own-found its-jobs ended t job m own runs).0

  -- the source after it gave its next job a number
  numbered : HarvestSource
  numbered = record s.source { next_job = s.source.next_job + 1 }

  added-runs : (created : ℤ) → RunsOn (sources_after (added_job created (Some s)) sources) sources
  unfolding numbered
  added-runs created t job m own runs =
      let u = map-IsIn (λ (u : SourceState). if bytes_eq u.source.name new.source then with_job new u else u) t
      (changed_by (PutSource numbered) sources) m in
      by u.0 u.1 (bytes_eq u.0.source.name new.source) refl u.2
    where
      new : Job
      new = new_job s.source.name s.source.next_job created

      other : (u : SourceState) (j : Job) → IsIn u (changed_by (PutSource numbered) sources) → IsIn j u.jobs
          → is_running j ≡ true → IsIn u sources × (bytes_eq u.source.name s.source.name ≡ false)
      other u j n has r = put-runs numbered s sources own-found its-jobs ended u j n has r

      taken : (u : SourceState) → IsIn u (changed_by (PutSource numbered) sources)
          → bytes_eq u.source.name s.source.name ≡ true
          → (job ≡ new) ⊎ (IsIn job u.jobs × (is_eq (job_cmp job new) ≡ false)) → IsIn t sources
      taken u n like (inl same) = absurd (true≢false (sym runs ∙ ap is_running same))
      taken u n like (inr old) = absurd (true≢false (sym like ∙ (other u job n old.0 runs).1))

      by : (u : SourceState) → IsIn u (changed_by (PutSource numbered) sources) → (b : Bool)
          → bytes_eq u.source.name s.source.name ≡ b → t ≡ (if b then with_job new u else u) → IsIn t sources
      by u n true like same =
          taken u n like
          (IsIn-upserted job_cmp new job u.jobs (subst (λ (v : SourceState). IsIn job v.jobs) same own))
      by u n false unlike same =
          subst (λ (v : SourceState). IsIn v sources) (sym same)
          (other u job n (subst (λ (v : SourceState). IsIn job v.jobs) same own) runs).0

none_there : (o : Option SourceState) → is_some o ≡ false → o ≡ None
none_there None is = refl
none_there (Some s) is = absurd (true≢false is)

source-runs : (change : SourceChange) (call : Call) (state : State) → IsValid state
    → IsFitSource (call_view_of call state) state.sources change → AreUnused state (claims_of_sources change)
    → RunsOn (changed_sources change state.sources) state.sources
source-runs (source.Create new) call state valid fit unused = λ t job m own runs.
    by t job own
    (IsIn-upserted source_cmp (with_jobs_of new None) t state.sources
    (subst (IsIn t)
    (added-sources new state.sources
    (none_there (source_named state.sources new.name)
    (first_unused (is_in_use state) (SourceName new.name) [] unused).0)) m))
  where
    by : (t : SourceState) (job : Job) → IsIn job t.jobs
        → (t ≡ with_jobs_of new None)
        ⊎ (IsIn t state.sources × (is_eq (source_cmp t (with_jobs_of new None)) ≡ false)) → IsIn t state.sources
    by t job own (inl same) = absurd (subst (λ (u : SourceState). IsIn job u.jobs) same own)
    by t job own (inr old) = old.0
source-runs (source.Update name title url) call state valid fit unused =
    by (source_named state.sources name) refl fit.possible
  where
    by : (o : Option SourceState) → source_named state.sources name ≡ o → fault_if_open o ≡ None
        → RunsOn (sources_after (updated_source title url o) state.sources) state.sources
    by None is none = λ t job m own runs. m
    by (Some s) is none = updated-runs state.sources valid.sources name s is (ended-so s none) title url
source-runs (source.Remove name) call state valid fit unused = λ t job m own runs.
    (IsIn-dropped (source_at name) t state.sources (subst (IsIn t) (removed-sources name state.sources) m)).0
source-runs (source.AddJob name created) call state valid fit unused =
    by (source_named state.sources name) refl fit.possible
  where
    by : (o : Option SourceState) → source_named state.sources name ≡ o → fault_if_open o ≡ None
        → RunsOn (sources_after (added_job created o) state.sources) state.sources
    by None is none = λ t job m own runs. m
    by (Some s) is none = added-runs state.sources valid.sources name s is (ended-so s none) created

planned-runs : (planned : PlannedChange) (call : Call) (state : State) → IsValid state → IsFit call state planned
    → AreUnused state (claims_of planned) → RunsOn (changed planned state).sources state.sources
planned-runs (People change) call state valid fit unused = λ t job m own runs. m
planned-runs (Datasets change) call state valid fit unused = λ t job m own runs. m
planned-runs (Tables change) call state valid fit unused = λ t job m own runs. m
planned-runs (Sources change) call state valid fit unused = source-runs change call state valid fit unused

-- A job that runs after a call runs before it, and its source is the same.
pub call-runs : (state : State) (call : Call) → IsValid state → (t : SourceState) (job : Job)
    → IsIn t (call_step state call).core.sources → IsIn job t.jobs → is_running job ≡ true → IsIn t state.sources
call-runs state call valid =
    call-kept (λ (h : HarvestState). (t : SourceState) (job : Job) → IsIn t h.sources → IsIn job t.jobs
    → is_running job ≡ true → IsIn t state.sources) state call valid (λ t job m own runs. m)
    (λ known planned fit unused. planned-runs planned known state valid fit unused)
