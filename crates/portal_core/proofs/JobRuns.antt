-- Jobs that run. Among the steps of a harvest, only the one that begins a job lets it run.
use Rattle.std.proofs.Common.{◌≡◌, ◌≢◌, ℕ, ◌≤◌, Bool, true, false, not, ◌&&◌, cond, List, [], ◌∷◌, ◌++◌, length, Option}
use Rattle.std.proofs.Common.{Some, None, refl, sym, ap, ◌∙◌, subst, inl, inr, ◌⊎◌, arith, true≢false}
use Rattle.std.specs.Prelude.{filter, if◌then◌else◌, is_some, option_map}
use Rattle.std.specs.List.{find, flat_map, list_all}
use Rattle.std.specs.Option.{option_map_or}
use Rattle.std.specs.Ordering.{is_eq}
use Rattle.std.specs.Str.{bytes_eq}
use Rattle.std.proofs.lemmas.Bool.{and_parts}
use Rattle.std.proofs.lemmas.List.Sums.{length-filter}
use Rattle.std.proofs.lemmas.Slice.Eq.{bytes_eq-Decides}
use Rattle.portal_base.proofs.Unique.{IsIn}
use Rattle.portal_base.proofs.Upserted.{IsIn-upserted}
use Rattle.packages.proofs.FindLemmas.{IsIn-find, find-none, map-IsIn}
use Rattle.harvest_sources.specs.Entries.{DropJob, DropSource, PutJob, PutListing, PutSource, SourceEntry, changed_by}
use Rattle.harvest_sources.specs.Entries.{sources_after, with_job, with_listing}
use Rattle.harvest_sources.specs.Jobs.{blank_report, id_of_job, in_state, is_open, is_open_state, is_running}
use Rattle.harvest_sources.specs.Jobs.{is_running_state, job_cmp, with_report}
use Rattle.harvest_sources.specs.Listings.{finished_report, first_waiting, is_done, listing_of, with_all_released}
use Rattle.harvest_sources.specs.Listings.{with_progress}
use Rattle.harvest_sources.specs.Sources.{HasItsJobs, SourceState, is_listed, open_job}
use Rattle.harvest_sources.specs.Steps.{Stepped, begun, broken, claimed, claimed_from, claimed_in, count_deleted, ended}
use Rattle.harvest_sources.specs.Steps.{ended_with, has_new, has_running, idle, is_accepted, is_unsettled, listed, on_job}
use Rattle.harvest_sources.specs.Steps.{outcome_of, renewal, renewals, settled, settled_in, stepped, waiting_of}
use Rattle.harvest_sources.specs.Steps.{with_open_job}
use Rattle.harvest_sources.specs.declared.cause.Cause.{Cause}
use Rattle.harvest_sources.specs.declared.job.Job.{Job}
use Rattle.harvest_sources.specs.declared.job.JobState.{JobState}
use Rattle.harvest_sources.specs.declared.job.JobState.TheVariants as state
use Rattle.harvest_sources.specs.declared.listing.Listing.{Listing}
use Rattle.harvest_sources.specs.declared.listing.Outcome.{Outcome}
use Rattle.harvest_sources.specs.declared.listing.Progress.TheVariants.{Claimed, Done as is_done_as}
use Rattle.harvest_sources.specs.declared.source.HarvestSource.{HarvestSource}
use Rattle.harvest_sources.specs.declared.step.Effect.{Effect}
use Rattle.harvest_sources.specs.declared.step.Item.{Item}
use Rattle.harvest_sources.specs.declared.step.Step.{Step}
use Rattle.harvest_sources.specs.declared.step.Step.TheVariants.{NewRound, Begin, List as list, Break, Claim, Settle, End}
use Rattle.harvest_sources.specs.declared.step.StepReply.{StepReply}
use Rattle.harvest_sources.specs.declared.step.StepReply.TheVariants.{Nothing, Done, Ended, Already}
use Rattle.harvest_results.specs.Histories.{gathers_for, source_of_job}

-- ---- a running job

-- a job of that id runs, and is one of the source
pub record RunsOf (source : HarvestSource) (id : List ℕ) (sources : List SourceState) : Type 0 where
  pub at : SourceState
  pub job : Job
  pub is_present : IsIn at sources
  pub own : IsIn job at.jobs
  pub is_id : id_of_job job ≡ id
  pub runs : is_running job ≡ true
  pub of_source : at.source ≡ source

-- it runs where its source has it
pub runs-at : (source : HarvestSource) (id : List ℕ) (others sources : List SourceState) (r : RunsOf source id others)
    (s : SourceState) → IsIn s sources → IsIn r.job s.jobs → s.source ≡ r.at.source → RunsOf source id sources
runs-at source id others sources r s m own same = record {
  at = s;
  job = r.job;
  is_present = m;
  own = own;
  is_id = r.is_id;
  runs = r.runs;
  of_source = same ∙ r.of_source;
}

running-open : (s : JobState) → is_running_state s ≡ true → is_open_state s ≡ true
running-open state.New runs = refl
running-open state.Running runs = refl
running-open state.Finished runs = absurd (true≢false (sym runs))
running-open (state.Broken cause) runs = absurd (true≢false (sym runs))

pub runs-open : (job : Job) → is_running job ≡ true → is_open job ≡ true
runs-open job runs = running-open job.report.state runs

some_open : (job : Job) (jobs : List Job) → IsIn job jobs → is_open job ≡ true → 1 ≤ length (filter is_open jobs)
some_open job [] m opens = absurd m
some_open job (j ∷ js) m opens = by (is_open j) refl m (λ n. some_open job js n opens)
  where
    by : (b : Bool) → is_open j ≡ b → IsIn job (j ∷ js) → (IsIn job js → 1 ≤ length (filter is_open js))
        → 1 ≤ length (cond b (j ∷ filter is_open js) (filter is_open js))
    by true is n go = omega arith
    by false is (inl same) go = absurd (true≢false (sym opens ∙ ap is_open same ∙ is))
    by false is (inr n) go = go n

-- Where at most one job is open, an open one is found.
found_open : (job : Job) (jobs : List Job) → length (filter is_open jobs) ≤ 1 → IsIn job jobs → is_open job ≡ true
    → find is_open jobs ≡ Some job
found_open job [] few m opens = absurd m
found_open job (j ∷ js) few m opens = by (is_open j) refl few m (λ less n. found_open job js less n opens)
  where
    by : (b : Bool) → is_open j ≡ b → length (cond b (j ∷ filter is_open js) (filter is_open js)) ≤ 1
        → IsIn job (j ∷ js) → (length (filter is_open js) ≤ 1 → IsIn job js → find is_open js ≡ Some job)
        → cond b (Some j) (find is_open js) ≡ Some job
    by true is less (inl same) go = ap Some (sym same)
    by true is less (inr n) go = let more : 1 ≤ length (filter is_open js) = some_open job js n opens in absurd (omega arith)
    by false is less (inl same) go = absurd (true≢false (sym opens ∙ ap is_open same ∙ is))
    by false is less (inr n) go = go less n

-- The running job is the open one of its source.
pub runs-current : (s : SourceState) (job : Job) → HasItsJobs s → IsIn job s.jobs → is_running job ≡ true
    → open_job s ≡ Some job
runs-current s job holds m runs =
    found_open job s.jobs (subst (λ n. n ≤ 1) (sym (length-filter is_open s.jobs)) holds.one_open) m
    (runs-open job runs)

pub runs-has_running : (s : SourceState) (job : Job) → HasItsJobs s → IsIn job s.jobs → is_running job ≡ true
    → has_running s ≡ true
runs-has_running s job holds m runs =
    ap (λ (o : Option Job). option_map_or is_running o false) (runs-current s job holds m runs) ∙ runs

-- ---- entries that let no job of the id run

-- The entry is one of a job or a listing, and doesn't let the job of that id run.
abbrev pub IsQuiet : List ℕ → SourceEntry → Type 0
IsQuiet id (PutSource source) = ⊥
IsQuiet id (DropSource name) = ⊥
IsQuiet id (PutJob job) = is_running job ≡ true → id_of_job job ≢ id
IsQuiet id (DropJob name number) = ⊥
IsQuiet id (PutListing name listing) = Unit {0}

abbrev pub AreQuiet : List ℕ → List SourceEntry → Type 0
AreQuiet id entries = (e : SourceEntry) → IsIn e entries → IsQuiet id e

job-back : (source : HarvestSource) (id : List ℕ) (job : Job) (sources : List SourceState)
    → (is_running job ≡ true → id_of_job job ≢ id) → RunsOf source id (changed_by (PutJob job) sources)
    → RunsOf source id sources
job-back source id job sources quiet r =
    let s = map-IsIn (λ (s : SourceState). if bytes_eq s.source.name job.source then with_job job s else s) r.at
    sources r.is_present in
    by s.0 s.1 (bytes_eq s.0.source.name job.source) s.2
  where
    put : (s : SourceState) → IsIn s sources → r.at ≡ with_job job s
        → (r.job ≡ job) ⊎ (IsIn r.job s.jobs × (is_eq (job_cmp r.job job) ≡ false)) → RunsOf source id sources
    put s m is (inl same) = absurd (quiet (ap is_running (sym same) ∙ r.runs) (ap id_of_job (sym same) ∙ r.is_id))
    put s m is (inr old) =
        runs-at source id (changed_by (PutJob job) sources) sources r s m old.0
        (ap (λ (u : SourceState). u.source) (sym is))

    by : (s : SourceState) → IsIn s sources → (b : Bool) → r.at ≡ (if b then with_job job s else s)
        → RunsOf source id sources
    by s m true is =
        put s m is
        (IsIn-upserted job_cmp job r.job s.jobs (subst (λ (u : SourceState). IsIn r.job u.jobs) is r.own))
    by s m false is =
        runs-at source id (changed_by (PutJob job) sources) sources r s m
        (subst (λ (u : SourceState). IsIn r.job u.jobs) is r.own) (ap (λ (u : SourceState). u.source) (sym is))

listing-back : (source : HarvestSource) (id name : List ℕ) (listing : Option Listing) (sources : List SourceState)
    → RunsOf source id (changed_by (PutListing name listing) sources) → RunsOf source id sources
listing-back source id name listing sources r =
    let s = map-IsIn (λ (s : SourceState). if bytes_eq s.source.name name then with_listing listing s else s) r.at
    sources r.is_present in
    by s.0 s.1 (bytes_eq s.0.source.name name) s.2
  where
    by : (s : SourceState) → IsIn s sources → (b : Bool) → r.at ≡ (if b then with_listing listing s else s)
        → RunsOf source id sources
    by s m true is =
        runs-at source id (changed_by (PutListing name listing) sources) sources r s m
        (subst (λ (u : SourceState). IsIn r.job u.jobs) is r.own) (ap (λ (u : SourceState). u.source) (sym is))
    by s m false is =
        runs-at source id (changed_by (PutListing name listing) sources) sources r s m
        (subst (λ (u : SourceState). IsIn r.job u.jobs) is r.own) (ap (λ (u : SourceState). u.source) (sym is))

entry-back : (source : HarvestSource) (id : List ℕ) (entry : SourceEntry) (sources : List SourceState)
    → IsQuiet id entry → RunsOf source id (changed_by entry sources) → RunsOf source id sources
entry-back source id (PutSource new) sources quiet r = absurd quiet
entry-back source id (DropSource name) sources quiet r = absurd quiet
entry-back source id (PutJob job) sources quiet r = job-back source id job sources quiet r
entry-back source id (DropJob name number) sources quiet r = absurd quiet
entry-back source id (PutListing name listing) sources quiet r = listing-back source id name listing sources r

-- A job that runs after such entries ran before them.
pub runs-back : (source : HarvestSource) (id : List ℕ) (entries : List SourceEntry) (sources : List SourceState)
    → AreQuiet id entries → RunsOf source id (sources_after entries sources) → RunsOf source id sources
runs-back source id [] sources quiet r = r
runs-back source id (e ∷ es) sources quiet r =
    entry-back source id e sources (quiet e (inl refl))
    (runs-back source id es (changed_by e sources) (λ f m. quiet f (inr m)) r)

-- ---- the entries of steps

none-quiet : (id : List ℕ) → AreQuiet id []
none-quiet id = λ e m. absurd m

one-quiet : (id : List ℕ) (entry : SourceEntry) → IsQuiet id entry → AreQuiet id (entry ∷ [])
one-quiet id entry quiet = λ e m. by e m
  where
    by : (e : SourceEntry) → IsIn e (entry ∷ []) → IsQuiet id e
    by e (inl same) = subst (λ (f : SourceEntry). IsQuiet id f) (sym same) quiet
    by e (inr m) = absurd m

append-quiet : (id : List ℕ) (es fs : List SourceEntry) → AreQuiet id es → AreQuiet id fs → AreQuiet id (es ++ fs)
append-quiet id [] fs first rest = rest
append-quiet id (e ∷ es) fs first rest =
    either (first e (inl refl)) (append-quiet id es fs (λ f m. first f (inr m)) rest)
  where
    either : IsQuiet id e → AreQuiet id (es ++ fs) → AreQuiet id (e ∷ es ++ fs)
    either here more = λ f m. by f m
      where
        by : (f : SourceEntry) → IsIn f (e ∷ es ++ fs) → IsQuiet id f
        by f (inl same) = subst (λ (g : SourceEntry). IsQuiet id g) (sym same) here
        by f (inr m) = more f m

renewals-quiet : (id : List ℕ) (s : SourceState) → AreQuiet id (renewals s)
renewals-quiet id s = by s.listing (open_job s)
  where
    running : (job : Job) (b : Bool) → AreQuiet id (if b then PutJob (in_state state.New job) ∷ [] else [])
    running job true = one-quiet id (PutJob (in_state state.New job)) (λ runs. absurd (true≢false (sym runs)))
    running job false = none-quiet id

    by : (l : Option Listing) (o : Option Job) → AreQuiet id (renewal s l o)
    by None None = none-quiet id
    by (Some listing) None = none-quiet id
    by (Some listing) (Some job) =
        one-quiet id (PutListing s.source.name (Some (with_all_released listing))) tt
    by None (Some job) = running job (is_running job)

round-quiet : (id : List ℕ) (sources : List SourceState) → AreQuiet id (flat_map renewals sources)
round-quiet id [] = none-quiet id
round-quiet id (s ∷ ss) = append-quiet id (renewals s) (flat_map renewals ss) (renewals-quiet id s) (round-quiet id ss)

-- What the step comes to begins no job, and lets none run.
pub record IsPlain (id : List ℕ) (p : Stepped) : Type 0 where
  pub quiet : AreQuiet id p.entries
  pub gathers : gathers_for id p.reply ≡ false

idle-plain : (id : List ℕ) (reply : StepReply) → gathers_for id reply ≡ false → IsPlain id (idle reply)
idle-plain id reply gathers = record { quiet = none-quiet id; gathers = gathers }

either-plain : (id : List ℕ) (b : Bool) (p q : Stepped) → IsPlain id p → IsPlain id q → IsPlain id (cond b p q)
either-plain id true p q one other = one
either-plain id false p q one other = other

on-plain : (id : List ℕ) (otherwise : StepReply) (step : SourceState → Job → Stepped)
    → gathers_for id otherwise ≡ false → ((s : SourceState) (job : Job) → IsPlain id (step s job))
    → (o : Option SourceState) → IsPlain id (on_job otherwise step o)
on-plain id otherwise step gathers plain None = idle-plain id otherwise gathers
on-plain id otherwise step gathers plain (Some s) = by (open_job s)
  where
    by : (o : Option Job) → IsPlain id (option_map_or (step s) o (idle otherwise))
    by None = idle-plain id otherwise gathers
    by (Some job) = plain s job

listed-plain : (id : List ℕ) (items : List Item) (unnamed : ℕ) (s : SourceState) (job : Job)
    → IsPlain id (listed items unnamed s job)
listed-plain id items unnamed s job =
    either-plain id (is_running job && not (is_listed s))
    (record {
      entries = PutListing s.source.name (Some (listing_of s.source.name items unnamed)) ∷ [];
      reply = Done;
    }) (idle Already)
    (record {
      quiet = one-quiet id (PutListing s.source.name (Some (listing_of s.source.name items unnamed))) tt;
      gathers = refl;
    }) (idle-plain id Already refl)

broken-plain : (id : List ℕ) (cause : Cause) (s : SourceState) (job : Job) → IsPlain id (broken cause s job)
broken-plain id cause s job =
    either-plain id (is_running job && not (is_listed s))
    (record {
      entries = PutJob (in_state (state.Broken cause) job) ∷ [];
      reply = Ended (blank_report job.source (state.Broken cause));
    }) (idle Already)
    (record {
      quiet =
          one-quiet id (PutJob (in_state (state.Broken cause) job)) (λ runs. absurd (true≢false (sym runs)));
      gathers = refl;
    }) (idle-plain id Already refl)

claimed-plain : (id : List ℕ) (s : SourceState) (job : Job) → IsPlain id (claimed s job)
claimed-plain id s job = by s.listing
  where
    at_first : (listing : Listing) (o : Option Item)
        → IsPlain id (option_map_or (claimed_in s job listing) o (idle Nothing))
    at_first listing None = idle-plain id Nothing refl
    at_first listing (Some item) = record {
      quiet =
          one-quiet id (PutListing s.source.name (Some (with_progress item.iri (Claimed item.found) listing))) tt;
      gathers = refl;
    }

    by : (l : Option Listing) → IsPlain id (claimed_from s job l)
    by None = idle-plain id Nothing refl
    by (Some listing) = at_first listing (first_waiting listing)

settled-plain : (id iri : List ℕ) (o : Outcome) (s : SourceState) (job : Job) → IsPlain id (settled iri o s job)
settled-plain id iri o s job = by s.listing
  where
    by : (l : Option Listing) → IsPlain id (settled_in iri o s l)
    by None = idle-plain id Already refl
    by (Some listing) =
        either-plain id (is_unsettled iri listing)
        (record {
          entries = PutListing s.source.name (Some (with_progress iri (is_done_as o) listing)) ∷ [];
          reply = Done;
        }) (idle Already)
        (record {
          quiet = one-quiet id (PutListing s.source.name (Some (with_progress iri (is_done_as o) listing))) tt;
          gathers = refl;
        }) (idle-plain id Already refl)

ended-plain : (id : List ℕ) (deleted : ℕ) (s : SourceState) (job : Job) → IsPlain id (ended deleted s job)
ended-plain id deleted s job = by s.listing
  where
    by : (l : Option Listing) → IsPlain id (ended_with deleted s job l)
    by None = idle-plain id Already refl
    by (Some listing) =
        either-plain id (list_all is_done listing.objects)
        (record {
          entries =
              PutListing s.source.name None
              ∷ PutJob (with_report (finished_report job.source listing deleted) job) ∷ [];
          reply = Ended (finished_report job.source listing deleted);
        }) (idle Already)
        (record {
          quiet =
              append-quiet id (PutListing s.source.name None ∷ [])
              (PutJob (with_report (finished_report job.source listing deleted) job) ∷ [])
              (one-quiet id (PutListing s.source.name None) tt)
              (one-quiet id (PutJob (with_report (finished_report job.source listing deleted) job))
              (λ runs. absurd (true≢false (sym runs))));
          gathers = refl;
        }) (idle-plain id Already refl)

-- Each step but that which begins a job is so.
pub step-plain : (id : List ℕ) (step : Step) (effect : Effect) (sources : List SourceState)
    → (step ≡ Begin) ⊎ IsPlain id (stepped step effect sources)
step-plain id NewRound effect sources = inr (record { quiet = round-quiet id sources; gathers = refl })
step-plain id Begin effect sources = inl refl
step-plain id (list job items unnamed) effect sources =
    inr (on-plain id Already (listed items unnamed) refl (listed-plain id items unnamed) (with_open_job sources job))
step-plain id (Break job cause) effect sources =
    inr (on-plain id Already (broken cause) refl (broken-plain id cause) (with_open_job sources job))
step-plain id Claim effect sources =
    inr (on-plain id Nothing claimed refl (claimed-plain id) (find (λ s. is_some (waiting_of s)) sources))
step-plain id (Settle job iri reading) effect sources =
    inr (on-plain id Already (settled iri (outcome_of reading effect)) refl
    (settled-plain id iri (outcome_of reading effect)) (with_open_job sources job))
step-plain id (End job) effect sources =
    inr (on-plain id Already (ended (count_deleted effect)) refl (ended-plain id (count_deleted effect))
    (with_open_job sources job))

begin-quiet : (id : List ℕ) (sources : List SourceState)
    → gathers_for id (on_job Nothing begun (find has_new sources)).reply ≡ false
    → AreQuiet id (on_job Nothing begun (find has_new sources)).entries
begin-quiet id sources never = by (find has_new sources) never
  where
    at_open : (t : SourceState) (o : Option Job)
        → gathers_for id (option_map_or (begun t) o (idle Nothing)).reply ≡ false
        → AreQuiet id (option_map_or (begun t) o (idle Nothing)).entries
    at_open t None other = none-quiet id
    at_open t (Some job) other =
        one-quiet id (PutJob (in_state state.Running job))
        (λ runs same. true≢false (sym ((bytes_eq-Decides (id_of_job job) id).1 same) ∙ other))

    by : (o : Option SourceState) → gathers_for id (on_job Nothing begun o).reply ≡ false
        → AreQuiet id (on_job Nothing begun o).entries
    by None other = none-quiet id
    by (Some t) other = at_open t (open_job t) other

-- A job that runs after a step that doesn't begin it ran before.
pub step-back : (source : HarvestSource) (id : List ℕ) (step : Step) (effect : Effect) (sources : List SourceState)
    → gathers_for id (stepped step effect sources).reply ≡ false
    → RunsOf source id (sources_after (stepped step effect sources).entries sources) → RunsOf source id sources
step-back source id step effect sources never r = by step (step-plain id step effect sources) never r
  where
    by : (step : Step) → (step ≡ Begin) ⊎ IsPlain id (stepped step effect sources)
        → gathers_for id (stepped step effect sources).reply ≡ false
        → RunsOf source id (sources_after (stepped step effect sources).entries sources) → RunsOf source id sources
    by step (inr plain) other there =
        runs-back source id (stepped step effect sources).entries sources plain.quiet there
    by step (inl is) other there =
        began
        (subst (λ (s : Step). gathers_for id (stepped s effect sources).reply ≡ false) is other)
        (subst (λ (s : Step). RunsOf source id (sources_after (stepped s effect sources).entries sources)) is there)
      where
        began : gathers_for id (stepped Begin effect sources).reply ≡ false
            → RunsOf source id (sources_after (stepped Begin effect sources).entries sources)
            → RunsOf source id sources
        began quiet there =
            runs-back source id (on_job Nothing begun (find has_new sources)).entries sources
            (begin-quiet id sources quiet) there

-- Only a step that begins a job is answered with its catalogue.
pub gathers-begin : (id : List ℕ) (step : Step) (effect : Effect) (sources : List SourceState)
    → gathers_for id (stepped step effect sources).reply ≡ true → step ≡ Begin
gathers-begin id step effect sources gathers = by (step-plain id step effect sources)
  where
    by : (step ≡ Begin) ⊎ IsPlain id (stepped step effect sources) → step ≡ Begin
    by (inl is) = is
    by (inr plain) = absurd (true≢false (sym gathers ∙ plain.gathers))

-- ---- the open job of an id

-- The source whose open job has the id, with the job.
pub found-open : (id : List ℕ) (sources : List SourceState) (t : SourceState) → with_open_job sources id ≡ Some t
    → (job : Job) × IsIn t sources × (open_job t ≡ Some job) × (id_of_job job ≡ id)
found-open id sources t is =
    let there = IsIn-find (λ (s : SourceState). option_map_or (λ (j : Job). bytes_eq (id_of_job j) id) (open_job s)
    false) t sources is in
    by there.0 (open_job t) refl there.1
  where
    by : IsIn t sources → (o : Option Job) → open_job t ≡ o
        → option_map_or (λ (j : Job). bytes_eq (id_of_job j) id) o false ≡ true
        → (job : Job) × IsIn t sources × (open_job t ≡ Some job) × (id_of_job job ≡ id)
    by m None opens e = absurd (true≢false (sym e))
    by m (Some job) opens e = (job, m, opens, (bytes_eq-Decides (id_of_job job) id).0 e)

-- a running open job runs
runs-found : (id : List ℕ) (sources : List SourceState) (t : SourceState) (job : Job) → IsIn t sources
    → open_job t ≡ Some job → id_of_job job ≡ id → is_running job ≡ true → RunsOf t.source id sources
runs-found id sources t job m opens is runs = record {
  at = t;
  job = job;
  is_present = m;
  own = (IsIn-find is_open job t.jobs opens).0;
  is_id = is;
  runs = runs;
  of_source = refl;
}

-- A job that ends runs.
pub end-runs : (id : List ℕ) (deleted : ℕ) (sources : List SourceState)
    → ((s : SourceState) → IsIn s sources → HasItsJobs s)
    → is_accepted (on_job Already (ended deleted) (with_open_job sources id)).reply ≡ true
    → (source : HarvestSource) × RunsOf source id sources
end-runs id deleted sources holds accepted = by (with_open_job sources id) refl accepted
  where
    at_listing : (t : SourceState) (job : Job) → IsIn t sources → open_job t ≡ Some job → id_of_job job ≡ id
        → (l : Option Listing) → t.listing ≡ l → is_accepted (ended_with deleted t job l).reply ≡ true
        → (source : HarvestSource) × RunsOf source id sources
    at_listing t job m opens is None unlisted e = absurd (true≢false (sym e))
    at_listing t job m opens is (Some listing) listed e = (
      t.source,
      runs-found id sources t job m opens is
          (sym (ap (λ (o : Option Job). option_map_or is_running o false) opens)
          ∙ (holds t m).runs (ap (λ (l : Option Listing). is_some l) listed)),
    )

    at_open : (t : SourceState) → with_open_job sources id ≡ Some t → (o : Option Job) → open_job t ≡ o
        → is_accepted (option_map_or (ended deleted t) o (idle Already)).reply ≡ true
        → (source : HarvestSource) × RunsOf source id sources
    at_open t is None opens e = absurd (true≢false (sym e))
    at_open t is (Some job) opens e =
        let f = found-open id sources t is in
        let alike : f.0 ≡ job = cc in
        at_listing t job f.1 opens (ap id_of_job (sym alike) ∙ f.3) t.listing refl e

    by : (o : Option SourceState) → with_open_job sources id ≡ o
        → is_accepted (on_job Already (ended deleted) o).reply ≡ true
        → (source : HarvestSource) × RunsOf source id sources
    by None is e = absurd (true≢false (sym e))
    by (Some t) is e = at_open t is (open_job t) refl e

-- A job that breaks runs.
pub break-runs : (id : List ℕ) (cause : Cause) (sources : List SourceState)
    → is_accepted (on_job Already (broken cause) (with_open_job sources id)).reply ≡ true
    → (source : HarvestSource) × RunsOf source id sources
break-runs id cause sources accepted = by (with_open_job sources id) refl accepted
  where
    p : Job → Stepped
    p job = record {
      entries = PutJob (in_state (state.Broken cause) job) ∷ [];
      reply = Ended (blank_report job.source (state.Broken cause));
    }

    breaks : (t : SourceState) (job : Job) (b : Bool) → (is_running job && not (is_listed t)) ≡ b
        → is_accepted (cond b (p job) (idle Already)).reply ≡ true → is_running job ≡ true
    breaks t job true is e = (and_parts (is_running job) (not (is_listed t)) is).0
    breaks t job false is e = absurd (true≢false (sym e))

    at_open : (t : SourceState) → with_open_job sources id ≡ Some t → (o : Option Job) → open_job t ≡ o
        → is_accepted (option_map_or (broken cause t) o (idle Already)).reply ≡ true
        → (source : HarvestSource) × RunsOf source id sources
    at_open t is None opens e = absurd (true≢false (sym e))
    at_open t is (Some job) opens e =
        let f = found-open id sources t is in
        let alike : f.0 ≡ job = cc in (
          t.source,
          runs-found id sources t job f.1 opens (ap id_of_job (sym alike) ∙ f.3)
              (breaks t job (is_running job && not (is_listed t)) refl e),
        )

    by : (o : Option SourceState) → with_open_job sources id ≡ o
        → is_accepted (on_job Already (broken cause) o).reply ≡ true
        → (source : HarvestSource) × RunsOf source id sources
    by None is e = absurd (true≢false (sym e))
    by (Some t) is e = at_open t is (open_job t) refl e

-- ---- the beginning

-- The job that begins is one of a source.
pub begun-source : (id : List ℕ) (sources : List SourceState)
    → gathers_for id (on_job Nothing begun (find has_new sources)).reply ≡ true
    → (source : HarvestSource) × (source_of_job sources id ≡ Some source)
begun-source id sources gathers = by (find has_new sources) refl gathers
  where
    found : (t : SourceState) → IsIn t sources
        → option_map_or (λ (j : Job). bytes_eq (id_of_job j) id) (open_job t) false ≡ true
        → (o : Option SourceState) → with_open_job sources id ≡ o
        → (source : HarvestSource) × (source_of_job sources id ≡ Some source)
    found t m passes None is =
        absurd (true≢false (sym passes
        ∙ find-none (λ (s : SourceState). option_map_or (λ (j : Job). bytes_eq (id_of_job j) id) (open_job s) false) t
        sources is m))
    found t m passes (Some u) is = (u.source, ap (option_map (λ (s : SourceState). s.source)) is)

    at_open : (t : SourceState) → IsIn t sources → (o : Option Job) → open_job t ≡ o
        → gathers_for id (option_map_or (begun t) o (idle Nothing)).reply ≡ true
        → (source : HarvestSource) × (source_of_job sources id ≡ Some source)
    at_open t m None opens e = absurd (true≢false (sym e))
    at_open t m (Some job) opens e =
        found t m
        (ap (λ (o : Option Job). option_map_or (λ (j : Job). bytes_eq (id_of_job j) id) o false) opens ∙ e)
        (with_open_job sources id) refl

    by : (o : Option SourceState) → find has_new sources ≡ o → gathers_for id (on_job Nothing begun o).reply ≡ true
        → (source : HarvestSource) × (source_of_job sources id ≡ Some source)
    by None is e = absurd (true≢false (sym e))
    by (Some t) is e = at_open t (IsIn-find has_new t sources is).0 (open_job t) refl e

put-member : (job : Job) (sources : List SourceState) (t : SourceState) → IsIn t (changed_by (PutJob job) sources)
    → (s : SourceState) × IsIn s sources × (s.source ≡ t.source)
put-member job sources t m =
    let s = map-IsIn (λ (s : SourceState). if bytes_eq s.source.name job.source then with_job job s else s) t sources
    m in
    by s.0 s.1 (bytes_eq s.0.source.name job.source) s.2
  where
    by : (s : SourceState) → IsIn s sources → (b : Bool) → t ≡ (if b then with_job job s else s)
        → (s : SourceState) × IsIn s sources × (s.source ≡ t.source)
    by s n true is = (s, n, ap (λ (u : SourceState). u.source) (sym is))
    by s n false is = (s, n, ap (λ (u : SourceState). u.source) (sym is))

-- Each source after the beginning of a job was there before.
pub begun-member : (sources : List SourceState) (t : SourceState)
    → IsIn t (sources_after (on_job Nothing begun (find has_new sources)).entries sources)
    → (s : SourceState) × IsIn s sources × (s.source ≡ t.source)
begun-member sources t m = by (find has_new sources) m
  where
    at_open : (u : SourceState) (o : Option Job)
        → IsIn t (sources_after (option_map_or (begun u) o (idle Nothing)).entries sources)
        → (s : SourceState) × IsIn s sources × (s.source ≡ t.source)
    at_open u None n = (t, n, refl)
    at_open u (Some job) n = put-member (in_state state.Running job) sources t n

    by : (o : Option SourceState) → IsIn t (sources_after (on_job Nothing begun o).entries sources)
        → (s : SourceState) × IsIn s sources × (s.source ≡ t.source)
    by None n = (t, n, refl)
    by (Some u) n = at_open u (open_job u) n
