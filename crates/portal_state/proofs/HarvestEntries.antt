-- The entries of a step of a harvest: what they make of the state, and that they drop nothing beside what they name.
use Rattle.std.proofs.Common.{◌≡◌, ◌≢◌, ℕ, Bool, true, false, not, List, [], ◌∷◌, ◌++◌, Option, Some, None, map, refl, ap}
use Rattle.std.proofs.Common.{if◌then◌else◌, inl, inr, ◌∙◌}
use Rattle.std.specs.Option.{option_map_or}
use Rattle.std.specs.Str.{bytes_eq}
use Rattle.portal_base.proofs.Filtered.{IsIn-filter}
use Rattle.portal_base.proofs.Unique.{IsIn}
use Rattle.portal_base.proofs.Upserted.{All-IsIn}
use Rattle.packages.specs.declared.package.Package.{Package}
use Rattle.packages.proofs.FindLemmas.{IsIn-find}
use Rattle.visibility.specs.Visibility.{is_harvested}
use Rattle.datastore_answers.specs.Tables.{tables_in}
use Rattle.harvest_sources.specs.Entries.{SourceEntry, PutSource, DropSource, PutJob, DropJob, PutListing, sources_after}
use Rattle.harvest_sources.specs.Jobs.{id_of_job}
use Rattle.harvest_sources.specs.Listings.{has_object}
use Rattle.harvest_sources.specs.Sources.{SourceState, open_job}
use Rattle.harvest_sources.specs.Steps.{is_accepted, with_open_job}
use Rattle.harvest_sources.specs.declared.job.Job.{Job}
use Rattle.harvest_sources.specs.declared.listing.Listing.{Listing}
use Rattle.harvest_sources.specs.declared.step.Step.{Step}
use Rattle.harvest_sources.specs.declared.step.Step.TheVariants.{NewRound, Begin, List as list, Break, Claim, Settle, End}
use Rattle.harvest_stages.proofs.KeptLemmas.{step_kept}
use Rattle.harvest_stages.proofs.StepLemmas.{IsOwn}
use Rattle.harvest_results.specs.Effects.{HarvestChange, after_step, dropped_by, effect_of, gone_from, gone_of}
use Rattle.harvest_results.specs.Effects.{is_of_source, is_unlisted, with_put, without}
use Rattle.portal_state.specs.Alone.{AllDropAlone, DropsSourceAlone}
use Rattle.portal_state.specs.Entries.{Entry, OfSources, PutDataset, changed_by, state_after}
use Rattle.portal_state.specs.EntriesOf.{drop_of_dataset}
use Rattle.portal_state.specs.Harvest.{entries_of_harvest, harvest_change, harvest_entries, harvest_of, put_of_dataset}
use Rattle.portal_state.specs.Harvest.{state_after_step}
use Rattle.portal_state.specs.State.{State}
use Rattle.portal_state.specs.Valid.{IsValid}
use Rattle.portal_state.proofs.DatasetEntries.{dropped-without, state_after-datasets_dropped, with_datasets}
use Rattle.portal_state.proofs.SourceEntries.{harvested-tableless, of_source-harvested, state_after-sources, tableless-alone}
use Rattle.portal_state.proofs.StateLemmas.{state_after-++}
use Rattle.portal_state.proofs.TableViewing.{both}

-- ---- the state after a step

-- the state with the harvest's change made
abbrev pub harvested_in : HarvestChange → State → State
harvested_in change state = record state {
  datasets = without change.gone (with_put change.put state.datasets);
  sources = sources_after change.entries state.sources;
}

state_after-put : (put : Option Package) (state : State)
    → state_after (put_of_dataset put) state ≡ with_datasets (with_put put state.datasets) state
state_after-put None state = refl
state_after-put (Some d) state = refl

-- The entries of a harvest's change make it.
pub state_after-harvest : (change : HarvestChange) (state : State)
    → state_after (entries_of_harvest change) state ≡ harvested_in change state
state_after-harvest change state =
    state_after-++ (put_of_dataset change.put ++ drops) sources state
    ∙ ap (state_after sources)
    (state_after-++ (put_of_dataset change.put) drops state
    ∙ ap (state_after drops) (state_after-put change.put state)
    ∙ state_after-datasets_dropped change.gone (with_datasets put state)
    ∙ ap (λ (datasets : List Package). with_datasets datasets state) (dropped-without change.gone put))
    ∙ state_after-sources change.entries (with_datasets (without change.gone put) state)
  where
    put : List Package
    put = with_put change.put state.datasets

    drops : List Entry
    drops = map drop_of_dataset change.gone

    sources : List Entry
    sources = map OfSources change.entries

-- So the state after a step is the one that a harvest comes to,
pub harvest_of-after : (step : Step) (state : State)
    → harvest_of (state_after_step step state) ≡ after_step step (harvest_of state)
harvest_of-after step state = ap harvest_of (state_after-harvest (harvest_change step state) state)

-- and all else stays.
pub people-after_step : (step : Step) (state : State) → (state_after_step step state).people ≡ state.people
people-after_step step state =
    ap (λ (s : State). s.people) (state_after-harvest (harvest_change step state) state)

pub tables-after_step : (step : Step) (state : State) → (state_after_step step state).tables ≡ state.tables
tables-after_step step state =
    ap (λ (s : State). s.tables) (state_after-harvest (harvest_change step state) state)

pub quota-after_step : (step : Step) (state : State) → (state_after_step step state).quota_used ≡ state.quota_used
quota-after_step step state =
    ap (λ (s : State). s.quota_used) (state_after-harvest (harvest_change step state) state)

-- ---- what a step drops

gone-unlisted : (name : List ℕ) (there : Option Listing) (datasets : List Package) (d : Package)
    → IsIn d (gone_from name there datasets) → IsIn d datasets × (is_of_source name d ≡ true)
gone-unlisted name None datasets d m = absurd m
gone-unlisted name (Some listing) datasets d m =
    let was = IsIn-filter (is_unlisted name listing) d datasets m in
    (was.0, (both (is_of_source name d) (not (has_object d.iri listing)) was.1).0)

gone-harvested : (there : Option SourceState) (datasets : List Package)
    → ((s : SourceState) → there ≡ Some s → s.source.name ≢ []) → (d : Package) → IsIn d (gone_of there datasets)
    → IsIn d datasets × (is_harvested d ≡ true)
gone-harvested None datasets named d m = absurd m
gone-harvested (Some s) datasets named d m =
    let was = gone-unlisted s.source.name s.listing datasets d m in
    (was.0, of_source-harvested s.source.name d (named s refl) was.1)

dropped-harvested : (step : Step) (state : State) → IsValid state → (d : Package)
    → IsIn d (dropped_by step (harvest_of state)) → IsIn d state.datasets × (is_harvested d ≡ true)
dropped-harvested NewRound state valid d m = absurd m
dropped-harvested Begin state valid d m = absurd m
dropped-harvested (list job items unnamed) state valid d m = absurd m
dropped-harvested (Break job cause) state valid d m = absurd m
dropped-harvested Claim state valid d m = absurd m
dropped-harvested (Settle job iri reading) state valid d m = absurd m
dropped-harvested (End job) state valid d m =
    gone-harvested (with_open_job state.sources job) state.datasets
    (λ s is. All-IsIn (λ (t : SourceState). t.source.name ≢ []) state.sources valid.sources.named s
    (IsIn-find (λ (t : SourceState). option_map_or (λ (j : Job). bytes_eq (id_of_job j) job) (open_job t) false) s
    state.sources is).0) d m

-- Each dataset that a step drops is there, and was harvested.
pub gone-in : (step : Step) (state : State) → IsValid state → (d : Package) → IsIn d (harvest_change step state).gone
    → IsIn d state.datasets × (is_harvested d ≡ true)
gone-in step state valid d m = by (is_accepted (harvest_change step state).reply) m
  where
    by : (b : Bool) → IsIn d (if b then dropped_by step (harvest_of state) else [])
        → IsIn d state.datasets × (is_harvested d ≡ true)
    by true m = dropped-harvested step state valid d m
    by false m = absurd m

-- An entry of a step drops no source.
own-alone : (name : List ℕ) (entry : SourceEntry) (state : State) → IsOwn name entry → DropsSourceAlone entry state
own-alone name (PutSource source) state own = tt
own-alone name (DropSource other) state own = absurd own
own-alone name (PutJob job) state own = tt
own-alone name (DropJob other number) state own = tt
own-alone name (PutListing other listing) state own = tt

entries-alone : (entries : List SourceEntry) (state : State)
    → ((entry : SourceEntry) → IsIn entry entries → (s : State) → DropsSourceAlone entry s)
    → AllDropAlone (map OfSources entries) state
entries-alone [] state alone = tt
entries-alone (entry ∷ entries) state alone = (
  alone entry (inl refl) state,
  entries-alone entries (changed_by (OfSources entry) state) (λ e m. alone e (inr m)),
)

-- The entries of a step drop no source, and no dataset that has tables.
pub step-alone : (step : Step) (state : State) → IsValid state → AllDropAlone (harvest_entries step state) state
step-alone step state valid = by (harvest_change step state).put
  where
    gone : List Package
    gone = (harvest_change step state).gone

    entries : List SourceEntry
    entries = (harvest_change step state).entries

    alone : (entry : SourceEntry) → IsIn entry entries → (s : State) → DropsSourceAlone entry s
    alone entry m s =
        let there = (step_kept step (effect_of step (harvest_of state)) state.sources valid.sources).there entry m in
        own-alone there.0.source.name entry s there.2

    rest : (now : State) → now.tables ≡ state.tables
        → AllDropAlone (map drop_of_dataset gone ++ map OfSources entries) now
    rest now same =
        tableless-alone gone (map OfSources entries) now
        (λ d m. let was = gone-in step state valid d m in
        ap (tables_in d.id) same ∙ harvested-tableless d state valid was.0 was.1)
        (entries-alone entries (state_after (map drop_of_dataset gone) now) alone)

    by : (put : Option Package)
        → AllDropAlone (put_of_dataset put ++ map drop_of_dataset gone ++ map OfSources entries) state
    by None = rest state refl
    by (Some d) = (tt, rest (changed_by (PutDataset d) state) refl)
