-- The portal's history from the beginning of a job, as a harvest sees it.
use Rattle.std.proofs.Common.{◌≡◌, ◌≢◌, ℕ, Bool, true, false, List, [], ◌∷◌, ◌++◌, Option, Some, None, refl, sym, ap, ◌∙◌}
use Rattle.std.proofs.Common.{subst, inl, inr, ◌⊎◌, true≢false}
use Rattle.std.specs.Prelude.{IsTrue, is_some, option_map}
use Rattle.portal_base.proofs.Unique.{IsIn, IsIn-Contains}
use Rattle.portal_base.proofs.Upserted.{All-IsIn}
use Rattle.packages.specs.declared.package.Package.{Package}
use Rattle.harvest_records.specs.Names.{harvested_name}
use Rattle.harvest_results.specs.Counts.{bad_of, counts_in, counts_of}
use Rattle.harvest_results.specs.Effects.{HarvestState, after_step, change_of_step, effect_of}
use Rattle.harvest_results.specs.Histories.{AStep, Follows, HarvestEvent, HasItsNames, IsFit, IsHarvest, IsHistory}
use Rattle.harvest_results.specs.Histories.{KeepsItsNames, NeverBegins, Other, begins, datasets_of, end_of, last_of}
use Rattle.harvest_results.specs.Histories.{source_of_job}
use Rattle.harvest_results.specs.Readings.{is_whole}
use Rattle.harvest_results.specs.Results.{IsOwn, datasets_after, datasets_afresh}
use Rattle.harvest_results.proofs.JobIdLemmas.{job_id-source}
use Rattle.harvest_results.proofs.JobLemmas.{broken-leaves, ended-leaves, report-bad, report-counts, whole-leaves}
use Rattle.harvest_results.proofs.NameLemmas.{harvested_name-source}
use Rattle.harvest_results.proofs.SourceEntryLemmas.{job_named, named-member, same_bytes, same_member}
use Rattle.harvest_sources.specs.Sources.{HasItsJobs, IsJobOf, SourceState, source_cmp, source_cmp_total}
use Rattle.harvest_sources.specs.Sources.{source_named}
use Rattle.harvest_sources.specs.Steps.{count_deleted, has_running, is_accepted, with_open_job}
use Rattle.harvest_sources.specs.declared.cause.Cause.{Cause}
use Rattle.harvest_sources.specs.declared.job.SourceReport.{SourceReport}
use Rattle.harvest_sources.specs.declared.source.HarvestSource.{HarvestSource}
use Rattle.harvest_sources.specs.declared.step.Step.{Step}
use Rattle.harvest_sources.specs.declared.step.Step.TheVariants.{Begin, Break, End}
use Rattle.harvest_sources.specs.declared.step.StepReply.{StepReply}
use Rattle.harvest_sources.specs.declared.step.StepReply.TheVariants.{Ended}
use Rattle.portal_calls.specs.declared.call.Call.{Call}
use Rattle.portal_events.specs.declared.event.Event.{Event}
use Rattle.portal_events.specs.declared.event.Event.TheVariants.{Call as a_call, Harvest as a_step}
use Rattle.portal_hall.specs.History.{replay}
use Rattle.portal_state.specs.Harvest.{harvest_change, harvest_of, state_after_step}
use Rattle.portal_core.specs.HarvestHistory.{IsLastBegin, NoneRuns, accepts_step, after_begin, begun_in}
use Rattle.portal_core.specs.HarvestHistory.{harvest_history, harvested_in, reading_since}
use Rattle.portal_state.specs.State.{State}
use Rattle.portal_state.specs.Step.{call_step, step_of}
use Rattle.portal_state.specs.Valid.{IsSoundAmong, IsValid}
use Rattle.portal_core.proofs.CallHarvests.{call-left, call-runs}
use Rattle.portal_state.proofs.HarvestEntries.{harvest_of-after}
use Rattle.portal_state.proofs.Harvested.{made-id_apart, made-name_apart, of-source_harvested, sound-harvested, sound-in}
use Rattle.portal_core.proofs.JobRuns.{RunsOf, begun-member, begun-source, break-runs, end-runs, found-open, gathers-begin}
use Rattle.portal_core.proofs.JobRuns.{runs-has_running, step-back}
use Rattle.portal_state.proofs.Settling.{replay-valid, step-valid}

-- ---- a valid state is fit

-- Two sources of one name are the same.
same-named : (state : State) → IsValid state → (s t : SourceState) → IsIn s state.sources → IsIn t state.sources
    → s.source.name ≡ t.source.name → s ≡ t
same-named state valid s t m n same =
    same_member source_cmp source_cmp_total s t state.sources valid.sources.ascending m n
    (same_bytes s.source.name t.source.name same)

source-name : (state : State) → IsValid state → (s : SourceState) → IsIn s state.sources → s.source.name ≢ []
source-name state valid s m =
    All-IsIn (λ (t : SourceState). t.source.name ≢ []) state.sources valid.sources.named s m

source-jobs : (state : State) → IsValid state → (s : SourceState) → IsIn s state.sources → HasItsJobs s
source-jobs state valid s m = All-IsIn HasItsJobs state.sources valid.sources.jobs s m

-- A dataset that has a name which a source gives as its name, or as its id, is of that source.
named-apart : (state : State) (d : Package) (name iri : List ℕ) → IsSoundAmong state.people state.sources d
    → d.name ≡ harvested_name name iri → d.source ≡ name
named-apart state d name iri (inl sound) is = absurd (made-name_apart state.people d name iri sound is)
named-apart state d name iri (inr from) is =
    from.own.of_source
    ∙ harvested_name-source from.source.source.name name d.iri iri (sym from.own.named ∙ is)

id-apart : (state : State) (d : Package) (name iri : List ℕ) → IsSoundAmong state.people state.sources d
    → d.id ≡ harvested_name name iri → d.source ≡ name
id-apart state d name iri (inl sound) is = absurd (made-id_apart state.people d name iri sound is)
id-apart state d name iri (inr from) is = named-apart state d name iri (inr from) (sym from.own.id_is_name ∙ is)

own-in : (state : State) → IsValid state → (source : HarvestSource) (s : SourceState) → IsIn s state.sources
    → s.source ≡ source → (d : Package) → IsIn d state.datasets → d.source ≡ source.name → IsOwn source d
own-in state valid source s m own d n is =
    let name : s.source.name ≡ source.name = ap (λ (h : HarvestSource). h.name) own in
    let from = sound-harvested state.people state.sources d valid.sources (sound-in state d valid n)
    (of-source_harvested d s.source.name (source-name state valid s m) (is ∙ sym name)) in
    let same : from.source ≡ s =
    same-named state valid from.source s (IsIn-Contains from.source state.sources from.is_present) m
    (sym from.own.of_source ∙ is ∙ sym name) in
    subst (λ (h : HarvestSource). IsOwn h d) (ap (λ (t : SourceState). t.source) same ∙ own) from.own

fit-in : (state : State) → IsValid state → (source : HarvestSource) (s : SourceState) → IsIn s state.sources
    → s.source ≡ source → IsFit source (harvest_of state)
fit-in state valid source s m own = record {
  sources = valid.sources;
  ascending = valid.datasets;
  own = λ d n is. own-in state valid source s m own d (IsIn-Contains d state.datasets n) is;
  apart = λ d iri n is.
      id-apart state d source.name iri (sound-in state d valid (IsIn-Contains d state.datasets n)) is;
}

names-in : (state : State) → IsValid state → (source : HarvestSource) → HasItsNames source (harvest_of state)
names-in state valid source = λ d iri n is.
    named-apart state d source.name iri (sound-in state d valid (IsIn-Contains d state.datasets n)) is

-- ---- one event

-- the job doesn't begin with the step
abbrev NeverIn : List ℕ → State → Event → Type 0
NeverIn id state (a_call call) = Unit {0}
NeverIn id state (a_step step) = begins id (harvest_of state) step ≡ false

-- the event leads on from the state
abbrev LeadsOn : HarvestSource → State → Event → Type 0
LeadsOn source state (a_call call) =
    Follows source (harvest_of state) Other (harvest_of (call_step state call).core)
LeadsOn source state (a_step step) =
    Follows source (harvest_of state) (AStep step) (harvest_of (state_after_step step state))

-- a source that is in both lists is the one of its name in both
named-both : (source : HarvestSource) (id : List ℕ) (state next : State) → IsValid state → IsValid next
    → (r : RunsOf source id next.sources) → IsIn r.at state.sources
    → (source_named next.sources source.name ≡ Some r.at) × (source_named state.sources source.name ≡ Some r.at)
named-both source id state next valid valid_next r m =
    let name : r.at.source.name ≡ source.name = ap (λ (h : HarvestSource). h.name) r.of_source in (
      named-member next.sources source.name r.at valid_next.sources r.is_present name,
      named-member state.sources source.name r.at valid.sources m name,
    )

call-back : (source : HarvestSource) (id : List ℕ) (state : State) (call : Call) → IsValid state
    → RunsOf source id (call_step state call).core.sources
    → RunsOf source id state.sources × LeadsOn source state (a_call call)
call-back source id state call valid r =
    let m = call-runs state call valid r.at r.job r.is_present r.own r.runs in
    let named = named-both source id state (call_step state call).core valid (step-valid state (a_call call) valid) r m in
    let name : r.at.source.name ≡ source.name = ap (λ (h : HarvestSource). h.name) r.of_source in (
      record {
        at = r.at;
        job = r.job;
        is_present = m;
        own = r.own;
        is_id = r.is_id;
        runs = r.runs;
        of_source = r.of_source;
      },
      (
        named.0 ∙ sym named.1,
        call-left state call source.name valid
            (λ none. source-name state valid r.at m (name ∙ none))
            (ap (λ (o : Option SourceState). is_some o) named.0),
      ),
    )

-- A job that runs after a step that doesn't begin it ran before.
stepped-back : (source : HarvestSource) (id : List ℕ) (state : State) (step : Step)
    → begins id (harvest_of state) step ≡ false → RunsOf source id (state_after_step step state).sources
    → RunsOf source id state.sources
stepped-back source id state step never r =
    step-back source id step (effect_of step (harvest_of state)) state.sources never
    (subst (λ (h : HarvestState). RunsOf source id h.sources) (harvest_of-after step state) r)

event-back : (source : HarvestSource) (id : List ℕ) (state : State) (event : Event) → IsValid state
    → NeverIn id state event → RunsOf source id (step_of state event).core.sources
    → RunsOf source id state.sources × LeadsOn source state event
event-back source id state (a_call call) valid never r = call-back source id state call valid r
event-back source id state (a_step step) valid never r =
    (stepped-back source id state step never r, harvest_of-after step state)

-- ---- a history

-- The history ends in the state in which the replay does.
ends-so : (state : State) (events : List Event)
    → end_of (harvest_of state) (harvest_history state events) ≡ harvest_of (replay step_of state events)
ends-so state [] = refl
ends-so state (e ∷ events) = ends-so (step_of state e).core events

-- Where the job runs at the end, and never begins, it runs throughout, and the portal's history is one of a harvest.
history-of : (source : HarvestSource) (id : List ℕ) (state : State) (events : List Event) → IsValid state
    → RunsOf source id (replay step_of state events).sources
    → NeverBegins id (harvest_of state) (harvest_history state events)
    → RunsOf source id state.sources × IsHistory source (harvest_of state) (harvest_history state events)
history-of source id state [] valid r never = (r, tt)
history-of source id state (a_call call ∷ events) valid r never =
    let next : State = (call_step state call).core in
    let valid_next : IsValid next = step-valid state (a_call call) valid in
    let rest = history-of source id next events valid_next r never in
    let back = event-back source id state (a_call call) valid tt rest.0 in
    (back.0, (fit-in next valid_next source rest.0.at rest.0.is_present rest.0.of_source, back.1, rest.1))
history-of source id state (a_step step ∷ events) valid r never =
    let next : State = state_after_step step state in
    let valid_next : IsValid next = step-valid state (a_step step) valid in
    let rest = history-of source id next events valid_next r never.1 in
    let back = event-back source id state (a_step step) valid never.0 rest.0 in
    (back.0, (fit-in next valid_next source rest.0.at rest.0.is_present rest.0.of_source, back.1, rest.1))

keeps-names : (source : HarvestSource) (state : State) (events : List Event) → IsValid state
    → KeepsItsNames source (harvest_of state) (harvest_history state events)
keeps-names source state [] valid = names-in state valid source
keeps-names source state (e ∷ events) valid =
    (names-in state valid source, keeps-names source (step_of state e).core events (step-valid state e valid))

-- ---- a harvest

-- The source whose open job has the id is the one whose job of that id runs after the job began.
begun-same : (source found : HarvestSource) (id : List ℕ) (state : State) → IsValid state
    → source_of_job state.sources id ≡ Some source → RunsOf found id (begun_in state).sources
    → (u : SourceState) × IsIn u state.sources × (u.source ≡ source) × (found ≡ source)
begun-same source found id state valid of_source r = by (with_open_job state.sources id) refl of_source
  where
    valid_begun : IsValid (begun_in state)
    valid_begun = step-valid state (a_step Begin) valid

    job_source : r.job.source ≡ r.at.source.name
    job_source =
        (All-IsIn (IsJobOf r.at.source) r.at.jobs (source-jobs (begun_in state) valid_begun r.at r.is_present).own r.job
        r.own).own

    before : (s : SourceState) × IsIn s state.sources × (s.source ≡ r.at.source)
    before =
        begun-member state.sources r.at
        (subst (λ (h : HarvestState). IsIn r.at h.sources) (harvest_of-after Begin state) r.is_present)

    on : (u : SourceState) → with_open_job state.sources id ≡ Some u → u.source ≡ source
        → (u : SourceState) × IsIn u state.sources × (u.source ≡ source) × (found ≡ source)
    on u is own =
        let f = found-open id state.sources u is in
        let name : u.source.name ≡ r.at.source.name =
        sym (job_named u f.0 (source-jobs state valid u f.1) f.2)
        ∙ job_id-source f.0.source r.job.source f.0.number r.job.number (f.3 ∙ sym r.is_id) ∙ job_source in
        let same : u ≡ before.0 =
        same-named state valid u before.0 f.1 before.1
        (name ∙ ap (λ (h : HarvestSource). h.name) (sym before.2)) in (
          u,
          f.1,
          own,
          sym r.of_source ∙ sym before.2 ∙ ap (λ (t : SourceState). t.source) (sym same) ∙ own,
        )

    by : (o : Option SourceState) → with_open_job state.sources id ≡ o
        → option_map (λ (s : SourceState). s.source) o ≡ Some source
        → (u : SourceState) × IsIn u state.sources × (u.source ≡ source) × (found ≡ source)
    by None is e = absurd (cc)
    by (Some u) is e = let own : u.source ≡ source = cc in on u is own

module _ (state : State) (events : List Event) (source : HarvestSource) (id : List ℕ) (valid : IsValid state)
    (begin : IsLastBegin source id state events) where
  history : List (HarvestEvent × HarvestState)
  history = harvest_history (begun_in state) events

  begun-valid : IsValid (begun_in state)
  begun-valid = step-valid state (a_step Begin) valid

  last-valid : IsValid (after_begin state events)
  last-valid = replay-valid (begun_in state) events begun-valid

  same-begun : harvest_of (begun_in state) ≡ after_step Begin (harvest_of state)
  same-begun = harvest_of-after Begin state

  same-last : harvest_of (after_begin state events) ≡ last_of (harvest_of state) history
  unfolding history
  same-last =
      sym (ends-so (begun_in state) events)
      ∙ ap (λ (h : HarvestState). end_of h (harvest_history (begun_in state) events)) same-begun

  -- Where the job runs at the end, its history is a harvest.
  a-harvest : (found : HarvestSource) → RunsOf found id (after_begin state events).sources
      → IsHarvest source id (harvest_of state) history
  unfolding history
  a-harvest found r =
      let h = history-of found id (begun_in state) events begun-valid r begin.once in
      let b = begun-same source found id state valid begin.of_source h.0 in
      record {
        fit = fit-in state valid source b.0 b.1 b.2;
        begun = begin.begun;
        of_source = begin.of_source;
        fit_begun =
            subst (IsFit source) same-begun
            (fit-in (begun_in state) begun-valid source h.0.at h.0.is_present (h.0.of_source ∙ b.3));
        events =
            subst (λ (st : HarvestState). IsHistory source st (harvest_history (begun_in state) events)) same-begun
            (subst (λ (own : HarvestSource). IsHistory own (harvest_of (begun_in state))
            (harvest_history (begun_in state) events)) b.3 h.1);
        once =
            subst (λ (st : HarvestState). NeverBegins id st (harvest_history (begun_in state) events)) same-begun
            begin.once;
      }

  the-names : KeepsItsNames source (after_step Begin (harvest_of state)) history
  unfolding history
  the-names =
      subst (λ (st : HarvestState). KeepsItsNames source st (harvest_history (begun_in state) events)) same-begun
      (keeps-names source (begun_in state) events begun-valid)

  -- a job that ends or breaks runs until then
  ended-harvest : is_accepted (harvest_change (End id) (after_begin state events)).reply ≡ true
      → IsHarvest source id (harvest_of state) history
  ended-harvest accepted =
      let last : State = after_begin state events in
      let r = end-runs id (count_deleted (effect_of (End id) (harvest_of last))) last.sources
      (source-jobs last last-valid) accepted in
      a-harvest r.0 r.1

  broken-harvest : (cause : Cause)
      → is_accepted (harvest_change (Break id cause) (after_begin state events)).reply ≡ true
      → IsHarvest source id (harvest_of state) history
  broken-harvest cause accepted =
      let r = break-runs id cause (after_begin state events).sources accepted in a-harvest r.0 r.1

  -- what the portal accepts at the end is what the harvest accepts there
  accepted-last : (step : Step) → is_accepted (harvest_change step (after_begin state events)).reply ≡ true
      → is_accepted (change_of_step step (last_of (harvest_of state) history)).reply ≡ true
  accepted-last step accepted =
      subst (λ (st : HarvestState). is_accepted (change_of_step step st).reply ≡ true) same-last accepted

  left-last : (step : Step)
      → harvested_in source (state_after_step step (after_begin state events))
      ≡ datasets_of source (after_step step (last_of (harvest_of state) history))
  left-last step =
      ap (datasets_of source) (harvest_of-after step (after_begin state events) ∙ ap (after_step step) same-last)

  pub ended-so : is_accepted (harvest_change (End id) (after_begin state events)).reply ≡ true
      → harvested_in source (state_after_step (End id) (after_begin state events))
      ≡ datasets_after (harvested_in source state) (reading_since source id state events)
  unfolding history
  ended-so accepted =
      left-last (End id)
      ∙ ended-leaves source id (harvest_of state) (harvest_history (begun_in state) events) (ended-harvest accepted)
      (accepted-last (End id) accepted)

  pub whole-so : is_accepted (harvest_change (End id) (after_begin state events)).reply ≡ true
      → is_whole (reading_since source id state events) ≡ true
      → harvested_in source (state_after_step (End id) (after_begin state events))
      ≡ datasets_afresh (reading_since source id state events)
  unfolding history
  whole-so accepted whole =
      left-last (End id)
      ∙ whole-leaves source id (harvest_of state) (harvest_history (begun_in state) events) (ended-harvest accepted)
      (accepted-last (End id) accepted) whole

  pub broken-so : (cause : Cause)
      → is_accepted (harvest_change (Break id cause) (after_begin state events)).reply ≡ true
      → harvested_in source (state_after_step (Break id cause) (after_begin state events))
      ≡ harvested_in source state
  unfolding history
  broken-so cause accepted =
      left-last (Break id cause)
      ∙ broken-leaves source id (harvest_of state) (harvest_history (begun_in state) events) cause
      (broken-harvest cause accepted) (accepted-last (Break id cause) accepted)

  replied-last : (report : SourceReport)
      → (harvest_change (End id) (after_begin state events)).reply ≡ Ended report
      → (change_of_step (End id) (last_of (harvest_of state) history)).reply ≡ Ended report
  replied-last report is =
      subst (λ (st : HarvestState). (change_of_step (End id) st).reply ≡ Ended report) same-last is

  pub counts-so : (report : SourceReport)
      → (harvest_change (End id) (after_begin state events)).reply ≡ Ended report
      → counts_in report ≡ counts_of (harvested_in source state) (reading_since source id state events)
  unfolding history
  counts-so report is =
      report-counts source id (harvest_of state) (harvest_history (begun_in state) events) report
      (ended-harvest (ap (λ (r : StepReply). is_accepted r) is)) the-names (replied-last report is)

  pub bad-so : (report : SourceReport)
      → (harvest_change (End id) (after_begin state events)).reply ≡ Ended report
      → report.bad ≡ bad_of (reading_since source id state events)
  unfolding history
  bad-so report is =
      report-bad source id (harvest_of state) (harvest_history (begun_in state) events) report
      (ended-harvest (ap (λ (r : StepReply). is_accepted r) is)) (replied-last report is)

-- ---- the last beginning

-- the last place in the history where the job begins
record LastBegin (id : List ℕ) (state : State) (events : List Event) : Type 0 where
  pub earlier : List Event
  pub later : List Event
  pub source : HarvestSource
  pub split : events ≡ earlier ++ a_step Begin ∷ later
  pub last : IsLastBegin source id (replay step_of state earlier) later

prepended : (id : List ℕ) (state : State) (event : Event) (events : List Event)
    → LastBegin id (step_of state event).core events → LastBegin id state (event ∷ events)
prepended id state event events b = record {
  earlier = event ∷ b.earlier;
  later = b.later;
  source = b.source;
  split = ap (λ (l : List Event). event ∷ l) b.split;
  last = b.last;
}

-- A step that begins the job is its last beginning, if it never begins afterwards.
begins-here : (id : List ℕ) (state : State) (step : Step) (events : List Event)
    → begins id (harvest_of state) step ≡ true
    → NeverBegins id (harvest_of (state_after_step step state)) (harvest_history (state_after_step step state) events)
    → LastBegin id state (a_step step ∷ events)
begins-here id state step events begins_so never =
    let is : step ≡ Begin =
    gathers-begin id step (effect_of step (harvest_of state)) state.sources begins_so in
    let begun : begins id (harvest_of state) Begin ≡ true =
    subst (λ (s : Step). begins id (harvest_of state) s ≡ true) is begins_so in
    let own = begun-source id state.sources begun in
    record {
      earlier = [];
      later = events;
      source = own.0;
      split = ap (λ (s : Step). a_step s ∷ events) is;
      last = record {
        begun = begun;
        of_source = own.1;
        once =
            subst (λ (s : Step). NeverBegins id (harvest_of (state_after_step s state))
            (harvest_history (state_after_step s state) events)) is never;
      };
    }

-- Where the job runs at the end, it ran at the start and never began, or it has begun.
last-begin : (source : HarvestSource) (id : List ℕ) (state : State) (events : List Event) → IsValid state
    → RunsOf source id (replay step_of state events).sources
    → (RunsOf source id state.sources × NeverBegins id (harvest_of state) (harvest_history state events))
    ⊎ LastBegin id state events
last-begin source id state [] valid r = inl (r, tt)
last-begin source id state (a_call call ∷ events) valid r =
    by (last-begin source id (call_step state call).core events (step-valid state (a_call call) valid) r)
  where
    by : (RunsOf source id (call_step state call).core.sources
        × NeverBegins id (harvest_of (call_step state call).core)
        (harvest_history (call_step state call).core events))
        ⊎ LastBegin id (call_step state call).core events
        → (RunsOf source id state.sources
        × NeverBegins id (harvest_of state) (harvest_history state (a_call call ∷ events)))
        ⊎ LastBegin id state (a_call call ∷ events)
    by (inl so) = inl ((call-back source id state call valid so.0).0, so.1)
    by (inr begun) = inr (prepended id state (a_call call) events begun)
last-begin source id state (a_step step ∷ events) valid r =
    by (last-begin source id (state_after_step step state) events (step-valid state (a_step step) valid) r)
  where
    at_step : RunsOf source id (state_after_step step state).sources
        → NeverBegins id (harvest_of (state_after_step step state))
        (harvest_history (state_after_step step state) events)
        → (b : Bool) → begins id (harvest_of state) step ≡ b
        → (RunsOf source id state.sources
        × NeverBegins id (harvest_of state) (harvest_history state (a_step step ∷ events)))
        ⊎ LastBegin id state (a_step step ∷ events)
    at_step runs never true is = inr (begins-here id state step events is never)
    at_step runs never false is = inl (stepped-back source id state step is runs, (is, never))

    by : (RunsOf source id (state_after_step step state).sources
        × NeverBegins id (harvest_of (state_after_step step state))
        (harvest_history (state_after_step step state) events))
        ⊎ LastBegin id (state_after_step step state) events
        → (RunsOf source id state.sources
        × NeverBegins id (harvest_of state) (harvest_history state (a_step step ∷ events)))
        ⊎ LastBegin id state (a_step step ∷ events)
    by (inl so) = at_step so.0 so.1 (begins id (harvest_of state) step) refl
    by (inr begun) = inr (prepended id state (a_step step) events begun)

-- Where no job runs at the start, a job that runs at the end has begun.
has-begun : (source : HarvestSource) (id : List ℕ) (state : State) (events : List Event) → IsValid state
    → NoneRuns state → RunsOf source id (replay step_of state events).sources
    → (earlier later : List Event) × (own : HarvestSource) × (events ≡ earlier ++ a_step Begin ∷ later)
    × IsLastBegin own id (replay step_of state earlier) later
has-begun source id state events valid none r = by (last-begin source id state events valid r)
  where
    by : (RunsOf source id state.sources × NeverBegins id (harvest_of state) (harvest_history state events))
        ⊎ LastBegin id state events
        → (earlier later : List Event) × (own : HarvestSource) × (events ≡ earlier ++ a_step Begin ∷ later)
        × IsLastBegin own id (replay step_of state earlier) later
    by (inl so) =
        let q = so.0 in
        absurd (true≢false
        (sym (runs-has_running q.at q.job (source-jobs state valid q.at q.is_present) q.own q.runs)
        ∙ All-IsIn (λ (s : SourceState). has_running s ≡ false) state.sources none q.at q.is_present))
    by (inr b) = (b.earlier, b.later, b.source, b.split, b.last)

pub ended-begun : (state : State) (events : List Event) (id : List ℕ) → IsValid state → NoneRuns state
    → IsTrue (accepts_step (End id) (replay step_of state events))
    → (earlier later : List Event) × (own : HarvestSource) × (events ≡ earlier ++ a_step Begin ∷ later)
    × IsLastBegin own id (replay step_of state earlier) later
ended-begun state events id valid none accepted =
    let last : State = replay step_of state events in
    let r = end-runs id (count_deleted (effect_of (End id) (harvest_of last))) last.sources
    (source-jobs last (replay-valid state events valid)) accepted in
    has-begun r.0 id state events valid none r.1

pub broken-begun : (state : State) (events : List Event) (id : List ℕ) (cause : Cause) → IsValid state
    → NoneRuns state → IsTrue (accepts_step (Break id cause) (replay step_of state events))
    → (earlier later : List Event) × (own : HarvestSource) × (events ≡ earlier ++ a_step Begin ∷ later)
    × IsLastBegin own id (replay step_of state earlier) later
broken-begun state events id cause valid none accepted =
    let r = break-runs id cause (replay step_of state events).sources accepted in
    has-begun r.0 id state events valid none r.1
