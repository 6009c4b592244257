-- The step of a harvest on the parts is the step on the state that they make up.
use Rattle.std.proofs.Common.{◌≡◌, ℕ, true, false, List, [], map, Option, None, sym, ap, ◌∙◌}
use Rattle.std.specs.Prelude.{if◌then◌else◌}
use Rattle.packages.specs.declared.package.Package.{Package}
use Rattle.harvest_results.specs.Effects.{HarvestChange, dropped_by, effect_of, put_by, with_put}
use Rattle.harvest_sources.specs.Entries.{SourceEntry, sources_after}
use Rattle.harvest_sources.specs.Sources.{SourceState}
use Rattle.harvest_sources.specs.Steps.{Stepped, is_accepted, stepped}
use Rattle.harvest_sources.specs.declared.step.Effect.{Effect}
use Rattle.harvest_sources.specs.declared.step.Step.{Step}
use Rattle.harvest_stages.specs.Prepared.{StepToMake, stepped_in}
use Rattle.portal_state.specs.Entries.{state_after}
use Rattle.portal_state.specs.Harvest.{entries_of_harvest, harvest_change, harvest_of, state_after_step}
use Rattle.portal_state.specs.State.{State}
use Rattle.portal_state.specs.Stepped.{IsStep, after_commit, without_ids}
use Rattle.portal_state.proofs.Gone.{ids-without}
use Rattle.portal_state.proofs.HarvestEntries.{state_after-harvest}
use Rattle.portal_state.proofs.HarvestKeeping.{unaccepted-same}

-- A harvest's change puts a dataset, drops those with some ids, and changes the sources.
after-harvest : (change : HarvestChange) (state : State)
    → state_after (entries_of_harvest change) state
    ≡ after_commit change.put (map (λ (d : Package). d.id) change.gone) change.entries state
after-harvest change state =
    state_after-harvest change state
    ∙ ap (λ (datasets : List Package). record state {
      datasets = datasets;
      sources = sources_after change.entries state.sources;
    }) (sym (ids-without change.gone (with_put change.put state.datasets)))

-- ---- a prepared step

-- the reply of the prepared step
pub step-reply : (step : Step) (state : State) (prepared : StepToMake) → IsStep step state prepared
    → prepared.reply ≡ (harvest_change step state).reply
step-reply step state prepared is = ap (λ (s : Stepped). s.reply) is

-- what an accepted step puts
pub step-put : (step : Step) (state : State) (prepared : StepToMake) → IsStep step state prepared
    → is_accepted prepared.reply ≡ true → put_by step (harvest_of state) ≡ (harvest_change step state).put
step-put step state prepared is accepted =
    ap (λ b. if b then put_by step (harvest_of state) else None)
    (sym accepted ∙ ap is_accepted (step-reply step state prepared is))

-- and what it drops
pub step-gone : (step : Step) (state : State) (prepared : StepToMake) → IsStep step state prepared
    → is_accepted prepared.reply ≡ true → dropped_by step (harvest_of state) ≡ (harvest_change step state).gone
step-gone step state prepared is accepted =
    ap (λ b. if b then dropped_by step (harvest_of state) else [])
    (sym accepted ∙ ap is_accepted (step-reply step state prepared is))

-- An accepted step that is made leaves the state after it. What is put has to leave the datasets that the step's put leaves.
pub made-step : (step : Step) (state : State) (put : Option Package) (gone : List (List ℕ)) (prepared : StepToMake)
    → IsStep step state prepared → is_accepted prepared.reply ≡ true
    → with_put put state.datasets ≡ with_put (put_by step (harvest_of state)) state.datasets
    → gone ≡ map (λ (d : Package). d.id) (dropped_by step (harvest_of state))
    → after_commit put gone (stepped_in prepared state.sources).entries state ≡ state_after_step step state
made-step step state put gone prepared is accepted puts goes =
    let change : HarvestChange = harvest_change step state in
    let entries : List SourceEntry = (stepped_in prepared state.sources).entries in
    ap (λ (datasets : List Package). record state {
      datasets = without_ids gone datasets;
      sources = sources_after entries state.sources;
    })
    (puts ∙ ap (λ (o : Option Package). with_put o state.datasets) (step-put step state prepared is accepted))
    ∙ ap (λ (ids : List (List ℕ)). after_commit change.put ids entries state)
    (goes ∙ ap (map (λ (d : Package). d.id)) (step-gone step state prepared is accepted))
    ∙ ap (λ (s : Stepped). after_commit change.put (map (λ (d : Package). d.id) change.gone) s.entries state) is
    ∙ sym (after-harvest change state)

-- So it is where the parts prepared before make up the same state.
pub made-on : (step : Step) (prepared : StepToMake) (put : Option Package) (gone : List (List ℕ)) (before now after : State)
    → now ≡ before → IsStep step before prepared → is_accepted prepared.reply ≡ true
    → with_put put before.datasets ≡ with_put (put_by step (harvest_of before)) before.datasets
    → gone ≡ map (λ (d : Package). d.id) (dropped_by step (harvest_of before))
    → after ≡ after_commit put gone (stepped_in prepared now.sources).entries now → after ≡ state_after_step step before
made-on step prepared put gone before now after same is accepted puts goes made =
    made
    ∙ ap (λ (s : State). after_commit put gone (stepped_in prepared s.sources).entries s) same
    ∙ made-step step before put gone prepared is accepted puts goes

-- One that isn't accepted leaves the sources as they are.
pub left-sources : (step : Step) (state : State) (prepared : StepToMake) → IsStep step state prepared
    → is_accepted prepared.reply ≡ false
    → sources_after (stepped_in prepared state.sources).entries state.sources ≡ state.sources
left-sources step state prepared is refused =
    let change : HarvestChange = harvest_change step state in
    ap (λ (s : Stepped). sources_after s.entries state.sources) is
    ∙ sym (ap (λ (s : State). s.sources) (after-harvest change state))
    ∙ ap (λ (s : State). s.sources)
    (unaccepted-same step state (ap is_accepted (sym (step-reply step state prepared is)) ∙ refused))

-- So it is where the sources were prepared before.
pub left-on : (step : Step) (state : State) (prepared : StepToMake) (effect : Effect) (now after : List SourceState)
    → now ≡ state.sources → effect ≡ effect_of step (harvest_of state)
    → stepped_in prepared state.sources ≡ stepped step effect state.sources → is_accepted prepared.reply ≡ false
    → after ≡ sources_after (stepped_in prepared now).entries now → after ≡ state.sources
left-on step state prepared effect now after same found is refused made =
    made
    ∙ ap (λ (sources : List SourceState). sources_after (stepped_in prepared sources).entries sources) same
    ∙ left-sources step state prepared (is ∙ ap (λ (e : Effect). stepped step e state.sources) found) refused

-- and the state too.
pub left-state : (step : Step) (state : State) (prepared : StepToMake) → IsStep step state prepared
    → is_accepted prepared.reply ≡ false → state_after_step step state ≡ state
left-state step state prepared is refused =
    unaccepted-same step state (ap is_accepted (sym (step-reply step state prepared is)) ∙ refused)
