-- What happens between the beginning of a job and its end.
use Rattle.std.specs.Prelude.{◌≡◌, ℕ, Bool, false, ⊤, if◌then◌else◌, List, [], ◌∷◌, filter, map, Option, Some, None}
use Rattle.std.specs.Prelude.{IsTrue, find, option_map}
use Rattle.std.specs.List.{Contains}
use Rattle.std.specs.Str.{bytes_eq}
use Rattle.portal_base.specs.Ordered.{IsAscending}
use Rattle.packages.specs.Order.{dataset_cmp}
use Rattle.packages.specs.declared.package.Package.{Package}
use Rattle.harvest_records.specs.Names.{harvested_name}
use Rattle.harvest_sources.specs.Sources.{AreSources, SourceState, source_named}
use Rattle.harvest_sources.specs.Steps.{with_open_job}
use Rattle.harvest_sources.specs.declared.cause.Cause.TheVariants.{SameName}
use Rattle.harvest_sources.specs.declared.reading.Reading.{Reading}
use Rattle.harvest_sources.specs.declared.reading.Reading.TheVariants.{Bad}
use Rattle.harvest_sources.specs.declared.source.HarvestSource.{HarvestSource}
use Rattle.harvest_sources.specs.declared.step.Item.{Item}
use Rattle.harvest_sources.specs.declared.step.Step.{Step}
use Rattle.harvest_sources.specs.declared.step.Step.TheVariants.{NewRound, Begin, List as list, Break, Claim, Settle, End}
use Rattle.harvest_sources.specs.declared.step.StepReply.{StepReply}
use Rattle.harvest_sources.specs.declared.step.StepReply.TheVariants.{Started, Gather, Object, Nothing, Done, Ended, Already}
use Rattle.harvest_results.specs.Effects.{HarvestState, after_step, change_of_step, is_of_source}
use Rattle.harvest_sources.specs.Steps.{is_accepted}
use Rattle.harvest_results.specs.Readings.{CatalogueReading, ListedIri}
use Rattle.harvest_results.specs.Readings.CatalogueReading.{Listed}
use Rattle.harvest_results.specs.Results.{IsOwn}

-- ---- a history

-- The sources have their jobs. The datasets ascend by id; those of the source of that name are its own, and no others have
-- a name that it gives.
pub record IsFit (source : HarvestSource) (state : HarvestState) : Type 0 where
  pub sources : AreSources state.sources
  pub ascending : IsAscending dataset_cmp state.datasets
  pub own : (d : Package) → Contains state.datasets d → d.source ≡ source.name → IsOwn source d
  pub apart : (d : Package) (iri : List ℕ) → Contains state.datasets d → d.id ≡ harvested_name source.name iri
      → d.source ≡ source.name

-- the datasets of the source
abbrev pub datasets_of : HarvestSource → HarvestState → List Package
datasets_of source state = filter (is_of_source source.name) state.datasets

-- what happens: a step of a harvest, or something else
pub data HarvestEvent : Type 0 where
  AStep : Step → HarvestEvent
  Other : HarvestEvent

-- What isn't a step of a harvest leaves the source with its jobs and its listing, and its datasets. The portal accepts no
-- other call while a job of the source is open.
abbrev pub Follows : HarvestSource → HarvestState → HarvestEvent → HarvestState → Type 0
Follows source before (AStep step) after = after ≡ after_step step before
Follows source before Other after =
    (source_named after.sources source.name ≡ source_named before.sources source.name)
    × (datasets_of source after ≡ datasets_of source before)

-- each event leads to the state beside it, and each of these is fit
abbrev pub IsHistory : HarvestSource → HarvestState → List (HarvestEvent × HarvestState) → Type 0
IsHistory source before [] = ⊤
IsHistory source before (next ∷ rest) =
    IsFit source next.1 × Follows source before next.0 next.1 × IsHistory source next.1 rest

-- the state in which the history ends
abbrev pub end_of : HarvestState → List (HarvestEvent × HarvestState) → HarvestState
end_of before [] = before
end_of before (next ∷ rest) = end_of next.1 rest

-- ---- what a job has read

-- what was listed and settled of a job so far
pub record Gathered : Type 0 where
  pub items : List Item
  pub unnamed : ℕ
  pub settled : List ListedIri

abbrev pub nothing_gathered : Gathered
nothing_gathered = record { items = []; unnamed = 0; settled = [] }

-- with what an accepted step of the job of that id listed or settled
abbrev pub with_gathered : List ℕ → Step → Gathered → Gathered
with_gathered id NewRound g = g
with_gathered id Begin g = g
with_gathered id (list job items unnamed) g =
    if bytes_eq job id then record g { items = items; unnamed = unnamed } else g
with_gathered id (Break job cause) g = g
with_gathered id Claim g = g
with_gathered id (Settle job iri reading) g =
    if bytes_eq job id then record g { settled = record { iri = iri; reading = reading } ∷ g.settled } else g
with_gathered id (End job) g = g

abbrev pub with_event : List ℕ → HarvestState → HarvestEvent → Gathered → Gathered
with_event id before Other g = g
with_event id before (AStep step) g =
    if is_accepted (change_of_step step before).reply then with_gathered id step g else g

-- what the accepted steps of the job have listed and settled in the history, beside this
abbrev pub gathered : List ℕ → HarvestState → List (HarvestEvent × HarvestState) → Gathered → Gathered
gathered id before [] g = g
gathered id before (next ∷ rest) g = gathered id next.1 rest (with_event id before next.0 g)

-- what was read of an IRI; an IRI that was done at once has a lesser namesake
abbrev pub reading_or_namesake : Option ListedIri → Reading
reading_or_namesake None = Bad SameName
reading_or_namesake (Some read) = read.reading

abbrev pub read_item : List ListedIri → Item → ListedIri
read_item settled item = record {
  iri = item.iri;
  reading = reading_or_namesake (find (λ read. bytes_eq read.iri item.iri) settled);
}

-- the reading of the source's catalogue that was gathered
abbrev pub reading_of : HarvestSource → Gathered → CatalogueReading
reading_of source g = Listed source (map (read_item g.settled) g.items) g.unnamed

-- ---- the beginning and the end

-- the answer tells a worker to read the catalogue of the job of that id
abbrev pub gathers_for : List ℕ → StepReply → Bool
gathers_for id (Started jobs) = false
gathers_for id (Gather job url) = bytes_eq job id
gathers_for id (Object job item) = false
gathers_for id Nothing = false
gathers_for id Done = false
gathers_for id (Ended report) = false
gathers_for id Already = false

-- The step begins the job of that id.
abbrev pub begins : List ℕ → HarvestState → Step → Bool
begins id before step = gathers_for id (change_of_step step before).reply

-- no event of the history begins the job
abbrev pub NeverBegins : List ℕ → HarvestState → List (HarvestEvent × HarvestState) → Type 0
NeverBegins id before [] = ⊤
NeverBegins id before ((AStep step, after) ∷ rest) = (begins id before step ≡ false) × NeverBegins id after rest
NeverBegins id before ((Other, after) ∷ rest) = NeverBegins id after rest

-- the source whose open job has that id
abbrev pub source_of_job : List SourceState → List ℕ → Option HarvestSource
source_of_job sources id = option_map (λ s. s.source) (with_open_job sources id)

-- In this state the job of that id begins, which is one of the source. The history follows, in which the job doesn't begin
-- again.
pub record IsHarvest (source : HarvestSource) (id : List ℕ) (before : HarvestState)
    (history : List (HarvestEvent × HarvestState)) : Type 0 where
  pub fit : IsFit source before
  pub begun : IsTrue (begins id before Begin)
  pub of_source : source_of_job before.sources id ≡ Some source
  pub fit_begun : IsFit source (after_step Begin before)
  pub events : IsHistory source (after_step Begin before) history
  pub once : NeverBegins id (after_step Begin before) history

-- the state in which the history ends
abbrev pub last_of : HarvestState → List (HarvestEvent × HarvestState) → HarvestState
last_of before history = end_of (after_step Begin before) history

-- the reading that the job has gathered in the history
abbrev pub reading_by : HarvestSource → List ℕ → HarvestState → List (HarvestEvent × HarvestState) → CatalogueReading
reading_by source id before history =
    reading_of source (gathered id (after_step Begin before) history nothing_gathered)

-- the state accepts the step
abbrev pub accepts : HarvestState → Step → Bool
accepts state step = is_accepted (change_of_step step state).reply

-- ---- names

-- no other dataset has a name that the source gives
abbrev pub HasItsNames : HarvestSource → HarvestState → Type 0
HasItsNames source state =
    (d : Package) (iri : List ℕ) → Contains state.datasets d → d.name ≡ harvested_name source.name iri
    → d.source ≡ source.name

-- That holds in each state of the history.
abbrev pub KeepsItsNames : HarvestSource → HarvestState → List (HarvestEvent × HarvestState) → Type 0
KeepsItsNames source before [] = HasItsNames source before
KeepsItsNames source before (next ∷ rest) = HasItsNames source before × KeepsItsNames source next.1 rest
