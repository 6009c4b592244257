-- A job that runs: its history so far, which goes on step by step.
use Rattle.std.proofs.Common.{◌≡◌, ◌∙◌, ℕ, Bool, true, false, not, ◌&&◌, cond, List, [], ◌∷◌, ◌++◌, Option, Some, None}
use Rattle.std.proofs.Common.{refl, sym, ap, ap₂, subst, true≢false}
use Rattle.std.specs.Prelude.{find}
use Rattle.std.specs.List.{list_all}
use Rattle.std.specs.Option.{option_map_or}
use Rattle.std.specs.Str.{bytes_eq}
use Rattle.std.proofs.lemmas.Slice.Eq.{bytes_eq-Decides}
use Rattle.packages.proofs.FindLemmas.{IsIn-find, fails}
use Rattle.harvest_sources.specs.Entries.{PutListing, PutJob}
use Rattle.harvest_sources.specs.Jobs.{blank_report, id_of_job, in_state, is_running, job_id, with_report}
use Rattle.harvest_sources.specs.Listings.{finished_report, first_waiting, is_done, listing_of, with_progress}
use Rattle.harvest_sources.specs.Sources.{SourceState, is_listed, open_job}
use Rattle.harvest_sources.specs.Steps.{Stepped, begun, broken, claimed, claimed_from, claimed_in, count_deleted, ended}
use Rattle.harvest_sources.specs.Steps.{ended_with, has_new, idle, is_accepted, is_unsettled, listed, on_job, outcome_of}
use Rattle.harvest_sources.specs.Steps.{settled, settled_in, with_open_job}
use Rattle.harvest_sources.specs.declared.job.Job.{Job}
use Rattle.harvest_sources.specs.declared.job.JobState.TheVariants as state
use Rattle.harvest_sources.specs.declared.listing.Listing.{Listing}
use Rattle.harvest_sources.specs.declared.listing.Outcome.{Outcome}
use Rattle.harvest_sources.specs.declared.listing.Progress.TheVariants.{Done as is_done_as}
use Rattle.harvest_sources.specs.declared.source.HarvestSource.{HarvestSource}
use Rattle.harvest_sources.specs.declared.step.Item.{Item}
use Rattle.harvest_sources.specs.declared.step.Step.{Step}
use Rattle.harvest_sources.specs.declared.step.Step.TheVariants.{NewRound, Begin, List as list, Break, Claim, Settle, End}
use Rattle.harvest_sources.specs.declared.step.StepReply.{StepReply}
use Rattle.harvest_sources.specs.declared.step.StepReply.TheVariants.{Nothing, Done, Ended, Already}
use Rattle.harvest_results.specs.Effects.{HarvestState, after_step, change_of_step, effect_of}
use Rattle.harvest_results.specs.Histories.{AStep, Gathered, HarvestEvent, HasItsNames, IsFit, IsHarvest, IsHistory, KeepsItsNames}
use Rattle.harvest_results.specs.Histories.{NeverBegins, Other, begins, datasets_of, end_of, gathered, gathers_for, last_of}
use Rattle.harvest_results.specs.Histories.{nothing_gathered, with_event, with_gathered}
use Rattle.harvest_results.proofs.HistoryLemmas.{step-holds}
use Rattle.harvest_results.proofs.JobIdLemmas.{job_id-source}
use Rattle.harvest_results.proofs.PhaseLemmas.{Holds, cond_same, has_jobs}
use Rattle.harvest_results.proofs.SourceEntryLemmas.{job_named}
use Rattle.harvest_pool.specs.WholeRounds.{own_datasets}
use Rattle.harvest_pool.proofs.Done.{AllFit}
use Rattle.harvest_pool.proofs.QuietLemmas.{IsElsewhere}
use Rattle.harvest_pool.proofs.StageLemmas.{waits}

-- ---- one more step

-- the history with one more step
abbrev pub with_step : HarvestState → List (HarvestEvent × HarvestState) → Step → List (HarvestEvent × HarvestState)
with_step st past step = past ++ (AStep step, after_step step (end_of st past)) ∷ []

end-with_step : (step : Step) (st : HarvestState) (past : List (HarvestEvent × HarvestState))
    → end_of st (with_step st past step) ≡ after_step step (end_of st past)
end-with_step step st [] = refl
end-with_step step st (next ∷ rest) = end-with_step step next.1 rest

history-with_step : (source : HarvestSource) (step : Step) (st : HarvestState)
    (past : List (HarvestEvent × HarvestState)) → IsHistory source st past
    → IsFit source (after_step step (end_of st past)) → IsHistory source st (with_step st past step)
history-with_step source step st [] events fit = (fit, refl, tt)
history-with_step source step st (next ∷ rest) events fit =
    (events.0, events.1, history-with_step source step next.1 rest events.2 fit)

never-with_step : (id : List ℕ) (step : Step) (st : HarvestState) (past : List (HarvestEvent × HarvestState))
    → NeverBegins id st past → begins id (end_of st past) step ≡ false → NeverBegins id st (with_step st past step)
never-with_step id step st [] never idle_so = (idle_so, tt)
never-with_step id step st ((AStep one, after) ∷ rest) never idle_so =
    (never.0, never-with_step id step after rest never.1 idle_so)
never-with_step id step st ((Other, after) ∷ rest) never idle_so = never-with_step id step after rest never idle_so

names-with_step : (source : HarvestSource) (step : Step) (st : HarvestState)
    (past : List (HarvestEvent × HarvestState)) → KeepsItsNames source st past
    → HasItsNames source (after_step step (end_of st past)) → KeepsItsNames source st (with_step st past step)
names-with_step source step st [] names more = (names, more)
names-with_step source step st (next ∷ rest) names more =
    (names.0, names-with_step source step next.1 rest names.1 more)

gathered-with_step : (id : List ℕ) (step : Step) (st : HarvestState) (past : List (HarvestEvent × HarvestState))
    (g : Gathered)
    → gathered id st (with_step st past step) g ≡ with_event id (end_of st past) (AStep step) (gathered id st past g)
gathered-with_step id step st [] g = refl
gathered-with_step id step st (next ∷ rest) g = gathered-with_step id step next.1 rest (with_event id st next.0 g)

-- ---- a job that runs

-- The job of the source began after the round did, when the source had its datasets from before. What was gathered since is
-- this.
pub record Running (before : HarvestState) (s : SourceState) (job : Job) (st : HarvestState) (g : Gathered)
    : Type 0 where
  pub begun_in : HarvestState
  pub past : List (HarvestEvent × HarvestState)
  pub harvest : IsHarvest s.source (id_of_job job) begun_in past
  pub names : KeepsItsNames s.source (after_step Begin begun_in) past
  pub now : last_of begun_in past ≡ st
  pub old : datasets_of s.source begun_in ≡ own_datasets s.source.name before.datasets
  pub gathers : gathered (id_of_job job) (after_step Begin begun_in) past nothing_gathered ≡ g
  pub holds : Holds ⊥ (id_of_job job) s.source (datasets_of s.source begun_in) g st

pub runs-on : (before : HarvestState) (s : SourceState) (job : Job) (st : HarvestState) (g : Gathered)
    → id_of_job job ≡ job_id s.source.name job.number → Running before s job st g → (step : Step) → IsFit s.source st
    → IsFit s.source (after_step step st) → HasItsNames s.source (after_step step st)
    → begins (id_of_job job) st step ≡ false
    → Running before s job (after_step step st) (with_event (id_of_job job) st (AStep step) g)
runs-on before s job st g is_id r step fit fit_after names never =
    let id : List ℕ = id_of_job job in
    let one : HarvestState = after_step Begin r.begun_in in
    record {
      begun_in = r.begun_in;
      past = with_step one r.past step;
      harvest = record {
        fit = r.harvest.fit;
        begun = r.harvest.begun;
        of_source = r.harvest.of_source;
        fit_begun = r.harvest.fit_begun;
        events = history-with_step s.source step one r.past r.harvest.events
            (subst (λ (last : HarvestState). IsFit s.source (after_step step last)) (sym r.now) fit_after);
        once = never-with_step id step one r.past r.harvest.once
            (ap (λ (last : HarvestState). begins id last step) r.now ∙ never);
      };
      names = names-with_step s.source step one r.past r.names
          (subst (λ (last : HarvestState). HasItsNames s.source (after_step step last)) (sym r.now) names);
      now = end-with_step step one r.past ∙ ap (after_step step) r.now;
      old = r.old;
      gathers = gathered-with_step id step one r.past nothing_gathered
          ∙ ap₂ (λ (last : HarvestState) (k : Gathered). with_event id last (AStep step) k) r.now r.gathers;
      holds = step-holds ⊥ id s.source (datasets_of s.source r.begun_in) job.number is_id g st fit r.holds
          (λ none. absurd none) step never fit_after;
    }

-- ---- which steps begin no job of the id

abbrev pub is_begin : Step → Bool
is_begin NewRound = false
is_begin Begin = true
is_begin (list job items unnamed) = false
is_begin (Break job cause) = false
is_begin Claim = false
is_begin (Settle job iri reading) = false
is_begin (End job) = false

module _ (id : List ℕ) (st : HarvestState) where
  never-on : (otherwise : StepReply) (f : SourceState → Job → Stepped) (o : Option SourceState)
      → gathers_for id otherwise ≡ false → ((t : SourceState) (job : Job) → gathers_for id (f t job).reply ≡ false)
      → gathers_for id (on_job otherwise f o).reply ≡ false
  never-on otherwise f None none each = none
  never-on otherwise f (Some t) none each = by (open_job t)
    where
      by : (o : Option Job) → gathers_for id (option_map_or (f t) o (idle otherwise)).reply ≡ false
      by None = none
      by (Some job) = each t job

  never-either : (b : Bool) (p q : Stepped) → gathers_for id p.reply ≡ false → gathers_for id q.reply ≡ false
      → gathers_for id (cond b p q).reply ≡ false
  never-either true p q first second = first
  never-either false p q first second = second

  never-claimed : (t : SourceState) (job : Job) → gathers_for id (claimed t job).reply ≡ false
  never-claimed t job = by t.listing
    where
      at_item : (listing : Listing) (o : Option Item)
          → gathers_for id (option_map_or (claimed_in t job listing) o (idle Nothing)).reply ≡ false
      at_item listing None = refl
      at_item listing (Some item) = refl

      by : (l : Option Listing) → gathers_for id (claimed_from t job l).reply ≡ false
      by None = refl
      by (Some listing) = at_item listing (first_waiting listing)

  never-settled : (iri : List ℕ) (came : Outcome) (t : SourceState) (job : Job)
      → gathers_for id (settled iri came t job).reply ≡ false
  never-settled iri came t job = by t.listing
    where
      by : (l : Option Listing) → gathers_for id (settled_in iri came t l).reply ≡ false
      by None = refl
      by (Some listing) =
          never-either (is_unsettled iri listing)
          (record {
            entries = PutListing t.source.name (Some (with_progress iri (is_done_as came) listing)) ∷ [];
            reply = Done;
          }) (idle Already) refl refl

  never-ended : (deleted : ℕ) (t : SourceState) (job : Job) → gathers_for id (ended deleted t job).reply ≡ false
  never-ended deleted t job = by t.listing
    where
      by : (l : Option Listing) → gathers_for id (ended_with deleted t job l).reply ≡ false
      by None = refl
      by (Some listing) =
          never-either (list_all is_done listing.objects)
          (record {
            entries =
                PutListing t.source.name None
                ∷ PutJob (with_report (finished_report job.source listing deleted) job) ∷ [];
            reply = Ended (finished_report job.source listing deleted);
          }) (idle Already) refl refl

  pub never-begins : (step : Step) → is_begin step ≡ false → begins id st step ≡ false
  never-begins NewRound e = refl
  never-begins Begin e = absurd (true≢false e)
  never-begins (list job items unnamed) e =
      never-on Already (listed items unnamed) (with_open_job st.sources job) refl
      (λ t j. never-either (is_running j && not (is_listed t))
      (record {
        entries = PutListing t.source.name (Some (listing_of t.source.name items unnamed)) ∷ [];
        reply = Done;
      }) (idle Already) refl refl)
  never-begins (Break job cause) e =
      never-on Already (broken cause) (with_open_job st.sources job) refl
      (λ t j. never-either (is_running j && not (is_listed t))
      (record {
        entries = PutJob (in_state (state.Broken cause) j) ∷ [];
        reply = Ended (blank_report j.source (state.Broken cause));
      }) (idle Already) refl refl)
  never-begins Claim e = never-on Nothing claimed (find waits st.sources) refl never-claimed
  never-begins (Settle job iri reading) e =
      never-on Already (settled iri (outcome_of reading (effect_of (Settle job iri reading) st)))
      (with_open_job st.sources job) refl
      (never-settled iri (outcome_of reading (effect_of (Settle job iri reading) st)))
  never-begins (End job) e =
      never-on Already (ended (count_deleted (effect_of (End job) st))) (with_open_job st.sources job) refl
      (never-ended (count_deleted (effect_of (End job) st)))

  -- A job of another source has another id.
  pub begins-elsewhere : AllFit st → (name : List ℕ) (number : ℕ) → id ≡ job_id name number
      → IsElsewhere Begin st.sources name → begins id st Begin ≡ false
  begins-elsewhere fit name number is_id elsewhere = by (find has_new st.sources) refl
    where
      at_open : (t : SourceState) → find has_new st.sources ≡ Some t → (o : Option Job) → open_job t ≡ o
          → gathers_for id (option_map_or (begun t) o (idle Nothing)).reply ≡ false
      at_open t is None opens = refl
      at_open t is (Some job) opens = fails (bytes_eq (id_of_job job) id) (λ like.
          let m = (IsIn-find has_new t st.sources is).0 in
          elsewhere t is (sym (job_named t job (has_jobs st.sources fit.sources t m) opens)
          ∙ job_id-source job.source name job.number number
          ((bytes_eq-Decides (id_of_job job) id).0 like ∙ is_id)))

      by : (o : Option SourceState) → find has_new st.sources ≡ o
          → gathers_for id (on_job Nothing begun o).reply ≡ false
      by None is = refl
      by (Some t) is = at_open t is (open_job t) refl

  -- ---- what a step gathers

  -- A step that lists nothing of the job and settles nothing of it gathers nothing.
  pub event-same : (step : Step) (g : Gathered) → with_gathered id step g ≡ g → with_event id st (AStep step) g ≡ g
  event-same step g same =
      ap (λ (k : Gathered). cond (is_accepted (change_of_step step st).reply) k g) same
      ∙ cond_same (is_accepted (change_of_step step st).reply) g
