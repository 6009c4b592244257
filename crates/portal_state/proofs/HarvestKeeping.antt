-- What a step of a harvest puts and what it leaves: one that isn't accepted changes nothing, and a dataset that one puts was
-- harvested from a source.
use Rattle.std.proofs.Common.{◌≡◌, ◌&&◌, ◌++◌, ℕ, Bool, true, false, not, List, [], ◌∷◌, Option, Some, None, map, refl, ap}
use Rattle.std.proofs.Common.{◌∙◌, subst}
use Rattle.std.specs.Prelude.{find, if◌then◌else◌, is_some}
use Rattle.std.specs.List.{list_all}
use Rattle.std.specs.Option.{option_map_or}
use Rattle.std.specs.Str.{bytes_eq}
use Rattle.packages.proofs.FindLemmas.{IsIn-find}
use Rattle.packages.specs.declared.package.Package.{Package}
use Rattle.harvest_results.specs.Effects.{HarvestState, dropped_by, effect_of, put_by, read_in}
use Rattle.harvest_results.specs.Harvested.{harvested_dataset}
use Rattle.harvest_sources.specs.Entries.{SourceEntry, PutJob, PutListing}
use Rattle.harvest_sources.specs.Jobs.{blank_report, id_of_job, in_state, is_running, with_report}
use Rattle.harvest_sources.specs.Listings.{finished_report, first_waiting, is_done, listing_of, with_progress}
use Rattle.harvest_sources.specs.Sources.{SourceState, is_listed, open_job}
use Rattle.harvest_sources.specs.Steps.{Stepped, begun, broken, claimed, claimed_from, claimed_in, count_deleted, ended}
use Rattle.harvest_sources.specs.Steps.{ended_with, has_new, idle, is_accepted, is_unsettled, listed, on_job}
use Rattle.harvest_sources.specs.Steps.{outcome_of, settled, settled_in, stepped, waiting_of, with_open_job}
use Rattle.harvest_sources.specs.declared.cause.Cause.{Cause}
use Rattle.harvest_sources.specs.declared.job.Job.{Job}
use Rattle.harvest_sources.specs.declared.listing.Listing.{Listing}
use Rattle.harvest_sources.specs.declared.listing.Outcome.{Outcome}
use Rattle.harvest_sources.specs.declared.listing.Progress.TheVariants.{Done as is_done_as}
use Rattle.harvest_sources.specs.declared.job.JobState.TheVariants.{Broken}
use Rattle.harvest_sources.specs.declared.reading.Reading.{Reading}
use Rattle.harvest_sources.specs.declared.reading.Reading.TheVariants.{Good, Bad}
use Rattle.harvest_sources.specs.declared.step.Effect.{Effect}
use Rattle.harvest_sources.specs.declared.step.Item.{Item}
use Rattle.harvest_sources.specs.declared.step.Step.{Step}
use Rattle.harvest_sources.specs.declared.step.Step.TheVariants.{NewRound, Begin, List as list, Break, Claim, Settle}
use Rattle.harvest_sources.specs.declared.step.Step.TheVariants.{End}
use Rattle.harvest_sources.specs.declared.step.StepReply.{StepReply}
use Rattle.harvest_sources.specs.declared.step.StepReply.TheVariants.{Nothing, Done, Ended, Already}
use Rattle.portal_state.specs.Entries.{Entry, OfSources, state_after}
use Rattle.portal_state.specs.EntriesOf.{drop_of_dataset}
use Rattle.portal_state.specs.Harvest.{harvest_change, harvest_entries, harvest_of, put_of_dataset, state_after_step}
use Rattle.portal_state.specs.State.{State}
use Rattle.portal_state.specs.Valid.{IsHarvestedFrom}
use Rattle.portal_state.proofs.Harvested.{harvested-sound}

-- ---- a step that isn't accepted

-- the outcome has no entries, unless it is accepted
abbrev IsQuiet : Stepped → Type 0
IsQuiet p = is_accepted p.reply ≡ false → p.entries ≡ []

quiet-job : (otherwise : StepReply) (step : SourceState → Job → Stepped) → ((s : SourceState) (job : Job) → IsQuiet (step s job))
    → (there : Option SourceState) → IsQuiet (on_job otherwise step there)
quiet-job otherwise step quiet None = λ refused. refl
quiet-job otherwise step quiet (Some s) = by (open_job s)
  where
    by : (o : Option Job) → IsQuiet (option_map_or (step s) o (idle otherwise))
    by None = λ refused. refl
    by (Some job) = quiet s job

begun-quiet : (s : SourceState) (job : Job) → IsQuiet (begun s job)
begun-quiet s job = λ refused. absurd (cc)

listed-quiet : (items : List Item) (unnamed : ℕ) (s : SourceState) (job : Job) → IsQuiet (listed items unnamed s job)
listed-quiet items unnamed s job = by (is_running job && not (is_listed s))
  where
    by : (b : Bool)
        → IsQuiet (if b then record {
          entries = PutListing s.source.name (Some (listing_of s.source.name items unnamed)) ∷ [];
          reply = Done;
        } else idle Already)
    by true = λ refused. absurd (cc)
    by false = λ refused. refl

broken-quiet : (cause : Cause) (s : SourceState) (job : Job) → IsQuiet (broken cause s job)
broken-quiet cause s job = by (is_running job && not (is_listed s))
  where
    by : (b : Bool)
        → IsQuiet (if b then record {
          entries = PutJob (in_state (Broken cause) job) ∷ [];
          reply = Ended (blank_report job.source (Broken cause));
        } else idle Already)
    by true = λ refused. absurd (cc)
    by false = λ refused. refl

claimed-quiet : (s : SourceState) (job : Job) → IsQuiet (claimed s job)
claimed-quiet s job = by s.listing
  where
    item : (listing : Listing) (o : Option Item)
        → IsQuiet (option_map_or (claimed_in s job listing) o (idle Nothing))
    item listing None = λ refused. refl
    item listing (Some i) = λ refused. absurd (cc)

    by : (o : Option Listing) → IsQuiet (claimed_from s job o)
    by None = λ refused. refl
    by (Some listing) = item listing (first_waiting listing)

settled-quiet : (iri : List ℕ) (came : Outcome) (s : SourceState) (job : Job) → IsQuiet (settled iri came s job)
settled-quiet iri came s job = by s.listing
  where
    put : (listing : Listing) (b : Bool)
        → IsQuiet (if b then record {
          entries = PutListing s.source.name (Some (with_progress iri (is_done_as came) listing)) ∷ [];
          reply = Done;
        } else idle Already)
    put listing true = λ refused. absurd (cc)
    put listing false = λ refused. refl

    by : (o : Option Listing) → IsQuiet (settled_in iri came s o)
    by None = λ refused. refl
    by (Some listing) = put listing (is_unsettled iri listing)

ended-quiet : (deleted : ℕ) (s : SourceState) (job : Job) → IsQuiet (ended deleted s job)
ended-quiet deleted s job = by s.listing
  where
    put : (listing : Listing) (b : Bool)
        → IsQuiet (if b then record {
          entries =
              PutListing s.source.name None ∷ PutJob (with_report (finished_report job.source listing deleted) job) ∷ [];
          reply = Ended (finished_report job.source listing deleted);
        } else idle Already)
    put listing true = λ refused. absurd (cc)
    put listing false = λ refused. refl

    by : (o : Option Listing) → IsQuiet (ended_with deleted s job o)
    by None = λ refused. refl
    by (Some listing) = put listing (list_all is_done listing.objects)

-- A step that isn't accepted has no entries of sources and jobs,
pub stepped-quiet : (step : Step) (effect : Effect) (sources : List SourceState)
    → is_accepted (stepped step effect sources).reply ≡ false → (stepped step effect sources).entries ≡ []
stepped-quiet NewRound effect sources refused = absurd (cc)
stepped-quiet Begin effect sources refused = quiet-job Nothing begun begun-quiet (find has_new sources) refused
stepped-quiet (list id items unnamed) effect sources refused =
    quiet-job Already (listed items unnamed) (listed-quiet items unnamed) (with_open_job sources id) refused
stepped-quiet (Break id cause) effect sources refused =
    quiet-job Already (broken cause) (broken-quiet cause) (with_open_job sources id) refused
stepped-quiet Claim effect sources refused =
    quiet-job Nothing claimed claimed-quiet (find (λ s. is_some (waiting_of s)) sources) refused
stepped-quiet (Settle id iri reading) effect sources refused =
    quiet-job Already (settled iri (outcome_of reading effect)) (settled-quiet iri (outcome_of reading effect))
    (with_open_job sources id) refused
stepped-quiet (End id) effect sources refused =
    quiet-job Already (ended (count_deleted effect)) (ended-quiet (count_deleted effect)) (with_open_job sources id)
    refused

-- and none at all.
pub unaccepted-entries : (step : Step) (state : State) → is_accepted (harvest_change step state).reply ≡ false
    → harvest_entries step state ≡ []
unaccepted-entries step state refused =
    ap (λ (b : Bool). put_of_dataset (if b then put_by step (harvest_of state) else None)
    ++ map drop_of_dataset (if b then dropped_by step (harvest_of state) else [])
    ++ map OfSources (harvest_change step state).entries) refused
    ∙ ap (λ (entries : List SourceEntry). map OfSources entries)
    (stepped-quiet step (effect_of step (harvest_of state)) state.sources refused)

-- So it leaves the state.
pub unaccepted-same : (step : Step) (state : State) → is_accepted (harvest_change step state).reply ≡ false
    → state_after_step step state ≡ state
unaccepted-same step state refused =
    ap (λ (entries : List Entry). state_after entries state) (unaccepted-entries step state refused)

-- ---- what a step puts

put_by-from : (step : Step) (state : HarvestState) (d : Package) → put_by step state ≡ Some d
    → IsHarvestedFrom state.sources d
put_by-from NewRound state d is = absurd (cc)
put_by-from Begin state d is = absurd (cc)
put_by-from (list id items unnamed) state d is = absurd (cc)
put_by-from (Break id cause) state d is = absurd (cc)
put_by-from Claim state d is = absurd (cc)
put_by-from (Settle id iri reading) state d is = by (with_open_job state.sources id) refl reading is
  where
    by : (o : Option SourceState) → with_open_job state.sources id ≡ o → (r : Reading) → read_in iri r o ≡ Some d
        → IsHarvestedFrom state.sources d
    by None there r is = absurd (cc)
    by (Some s) there (Bad cause) is = absurd (cc)
    by (Some s) there (Good r) is =
        let same : harvested_dataset s.source iri r ≡ d = cc in
        subst (IsHarvestedFrom state.sources) same
        (harvested-sound state.sources s iri r
        (IsIn-find (λ (t : SourceState). option_map_or (λ (job : Job). bytes_eq (id_of_job job) id) (open_job t) false) s
        state.sources there).0)
put_by-from (End id) state d is = absurd (cc)

-- A dataset that a step puts was harvested from one of the sources.
pub put-from : (step : Step) (state : State) (d : Package) → (harvest_change step state).put ≡ Some d
    → IsHarvestedFrom state.sources d
put-from step state d is = by (is_accepted (harvest_change step state).reply) is
  where
    by : (b : Bool) → (if b then put_by step (harvest_of state) else None) ≡ Some d
        → IsHarvestedFrom state.sources d
    by true is = put_by-from step (harvest_of state) d is
    by false is = absurd (cc)
