-- Valid states in which no job runs: a round may begin in them, and calls and whole rounds lead from one to another.
use Rattle.std.proofs.Common.{◌≡◌, Bool, true, false, cond, List, [], ◌∷◌, Option, Some, None, refl, sym, ap}
use Rattle.std.proofs.Common.{◌∙◌, get_or, subst, inl, inr, true≢false}
use Rattle.std.specs.List.{All, find}
use Rattle.std.specs.Option.{option_map_or}
use Rattle.std.proofs.lemmas.List.Elements.{All-nil}
use Rattle.portal_base.proofs.Unique.{IsIn, IsIn-Contains}
use Rattle.portal_base.proofs.Upserted.{All-IsIn, All-each}
use Rattle.harvest_pool.specs.Made.{Made, state_after as harvest_after}
use Rattle.harvest_pool.specs.WholeRounds.{IsAtRest}
use Rattle.harvest_results.specs.Effects.{HarvestState}
use Rattle.harvest_results.specs.Histories.{HasItsNames, IsFit}
use Rattle.harvest_results.specs.Results.{IsOwn}
use Rattle.harvest_results.proofs.NameLemmas.{harvested_name-source}
use Rattle.harvest_results.proofs.SourceEntryLemmas.{same_bytes, same_member}
use Rattle.harvest_sources.specs.Jobs.{in_state, is_open, is_running}
use Rattle.harvest_sources.specs.Sources.{SourceState, open_job, source_cmp, source_cmp_total}
use Rattle.harvest_sources.specs.Steps.{has_running}
use Rattle.harvest_sources.specs.declared.job.Job.{Job}
use Rattle.harvest_sources.specs.declared.job.JobState.TheVariants.{New}
use Rattle.harvest_sources.specs.declared.source.HarvestSource.{HarvestSource}
use Rattle.portal_calls.specs.declared.call.Call.{Call}
use Rattle.portal_events.specs.declared.event.Event.TheVariants.{Call as a_call, Harvest as a_step}
use Rattle.portal_state.specs.Harvest.{harvest_of, state_after_step}
use Rattle.portal_core.specs.HarvestHistory.{NoneRuns}
use Rattle.portal_state.specs.PortalValue.{IsOpenedOver}
use Rattle.portal_state.specs.State.{State}
use Rattle.portal_state.specs.Step.{call_step}
use Rattle.portal_state.specs.Valid.{IsValid}
use Rattle.portal_state.specs.declared.opening.Opening.{Opening}
use Rattle.portal_core.proofs.CallHarvests.{call-runs}
use Rattle.portal_state.proofs.HarvestEntries.{harvest_of-after}
use Rattle.portal_state.proofs.Harvested.{made-id_apart, made-name_apart, of-source_harvested, sound-harvested, sound-in}
use Rattle.portal_state.proofs.Harvested.{source-named}
use Rattle.portal_core.proofs.RestoredSources.{stays}
use Rattle.portal_state.proofs.Settling.{step-valid}
use Rattle.portal_keeper.specs.declared.row.KeptRow.{KeptRow}
use Rattle.portal_serve.proofs.Rounding.{with_harvest-after}
use Rattle.portal_serve.specs.Rounds.{with_harvest}

-- the state is valid, and no job runs
pub record IsResting (state : State) : Type 0 where
  pub valid : IsValid state
  pub none_runs : NoneRuns state

-- ---- where a round may begin

-- Two sources of one name are the same.
same-named : (state : State) → IsValid state → (s t : SourceState) → IsIn s state.sources → IsIn t state.sources
    → s.source.name ≡ t.source.name → s ≡ t
same-named state valid s t m n same =
    same_member source_cmp source_cmp_total s t state.sources valid.sources.ascending m n
    (same_bytes s.source.name t.source.name same)

names-in : (state : State) → IsValid state → (source : HarvestSource) → HasItsNames source (harvest_of state)
names-in state valid source = λ d iri n is.
    elim (sound-in state d valid (IsIn-Contains d state.datasets n)) as (λ sound. d.source ≡ source.name) [
      | inl made ↦ absurd (made-name_apart state.people d source.name iri made is)
      | inr from ↦ from.own.of_source
          ∙ harvested_name-source from.source.source.name source.name d.iri iri (sym from.own.named ∙ is)
    ]

fit-in : (state : State) → IsValid state → (s : SourceState) → IsIn s state.sources → IsFit s.source (harvest_of state)
fit-in state valid s m = record {
  sources = valid.sources;
  ascending = valid.datasets;
  own = λ d n is.
      let from = sound-harvested state.people state.sources d valid.sources
      (sound-in state d valid (IsIn-Contains d state.datasets n))
      (of-source_harvested d s.source.name (source-named state.sources s valid.sources m) is) in
      subst (λ (t : SourceState). IsOwn t.source d)
      (same-named state valid from.source s (IsIn-Contains from.source state.sources from.is_present) m
      (sym from.own.of_source ∙ is))
      from.own;
  apart = λ d iri n is.
      elim (sound-in state d valid (IsIn-Contains d state.datasets n)) as (λ sound. d.source ≡ s.source.name) [
        | inl made ↦ absurd (made-id_apart state.people d s.source.name iri made is)
        | inr from ↦ from.own.of_source
            ∙ harvested_name-source from.source.source.name s.source.name d.iri iri
            (sym from.own.named ∙ sym from.own.id_is_name ∙ is)
      ];
}

-- A round may begin in a valid state in which no job runs.
pub at-rest : (state : State) → IsResting state → IsAtRest (harvest_of state)
at-rest state rest = record {
  sources = rest.valid.sources;
  none_runs = rest.none_runs;
  fit = All-each (λ (s : SourceState). IsFit s.source (harvest_of state)) state.sources
      (λ s m. fit-in state rest.valid s m);
  named = All-each (λ (s : SourceState). HasItsNames s.source (harvest_of state)) state.sources
      (λ s m. names-in state rest.valid s.source);
}

-- ---- running jobs

found-own : (job : Job) (jobs : List Job) → find is_open jobs ≡ Some job → IsIn job jobs
found-own job [] is = absurd (cc)
found-own job (j ∷ js) is = by (is_open j) is (found-own job js)
  where
    by : (b : Bool) → cond b (Some j) (find is_open js) ≡ Some job → (find is_open js ≡ Some job → IsIn job js)
        → IsIn job (j ∷ js)
    by true e more = let same : j ≡ job = cc in inl (sym same)
    by false e more = inr (more e)

-- a source with a running job has it among its jobs
running-own : (s : SourceState) → has_running s ≡ true → (job : Job) × IsIn job s.jobs × (is_running job ≡ true)
running-own s runs = by (open_job s) refl runs
  where
    by : (o : Option Job) → open_job s ≡ o → option_map_or is_running o false ≡ true
        → (job : Job) × IsIn job s.jobs × (is_running job ≡ true)
    by None is e = absurd (cc)
    by (Some job) is e = (job, found-own job s.jobs is, e)

not-so : (b : Bool) → (b ≡ true → b ≡ false) → b ≡ false
not-so true never = never refl
not-so false never = refl

-- ---- where a run begins

-- a job that runs is new again then
at-rest_none : (job : Job) → is_running (cond (is_running job) (in_state New job) job) ≡ false
at-rest_none job = by (is_running job) refl
  where
    by : (b : Bool) → is_running job ≡ b → is_running (cond b (in_state New job) job) ≡ false
    by true runs = refl
    by false ends = ends

-- No job runs where a portal is opened.
pub opened-rests : (opening : Opening) (rows : List KeptRow) (state : State) → IsOpenedOver opening rows state
    → NoneRuns state
opened-rests opening [] state is =
    subst NoneRuns (sym is) (All-nil (λ (s : SourceState). has_running s ≡ false))
opened-rests opening (row ∷ rows) state is =
    λ k d lt. let s : SourceState = get_or state.sources k d in not-so (has_running s) (λ runs.
    let own = running-own s runs in
    absurd (true≢false (sym own.2 ∙ sym (ap is_running (stays s (is.rest k d lt) own.0 own.1)) ∙ at-rest_none own.0)))

-- ---- after a call

-- No call makes a job run.
pub call-rests : (state : State) (call : Call) → IsResting state → IsResting (call_step state call).core
call-rests state call rest = record {
  valid = step-valid state (a_call call) rest.valid;
  none_runs = All-each (λ (s : SourceState). has_running s ≡ false) (call_step state call).core.sources
      (λ s m. not-so (has_running s) (λ runs.
      let own = running-own s runs in
      All-IsIn (λ (t : SourceState). has_running t ≡ false) state.sources rest.none_runs s
      (call-runs state call rest.valid s own.0 m own.1 own.2)));
}

-- ---- after steps of a harvest

steps-valid : (made : List Made) (state : State) → IsValid state
    → IsValid (with_harvest (harvest_after made (harvest_of state)) state)
steps-valid [] state valid = valid
steps-valid (m ∷ made) state valid =
    let next : State = state_after_step m.step state in
    subst IsValid
    (with_harvest-after (harvest_after made (harvest_of next)) m.step state
    ∙ ap (λ (h : HarvestState). with_harvest (harvest_after made h) state) (harvest_of-after m.step state))
    (steps-valid made next (step-valid state (a_step m.step) valid))

-- After steps that leave no job open, no job runs.
pub steps-rest : (made : List Made) (state : State) → IsValid state
    → All (λ s. open_job s ≡ None) (harvest_after made (harvest_of state)).sources
    → IsResting (with_harvest (harvest_after made (harvest_of state)) state)
steps-rest made state valid none_open =
    let sources : List SourceState = (harvest_after made (harvest_of state)).sources in
    record {
      valid = steps-valid made state valid;
      none_runs = All-each (λ (s : SourceState). has_running s ≡ false) sources
          (λ s m. ap (λ (o : Option Job). option_map_or is_running o false)
          (All-IsIn (λ (t : SourceState). open_job t ≡ None) sources none_open s m));
    }
