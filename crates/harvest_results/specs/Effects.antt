-- What the steps of a harvest do to the datasets of its source.
use Rattle.std.specs.Prelude.{ℕ, Bool, not, ◌&&◌, if◌then◌else◌, List, [], filter, length, Option, Some, None}
use Rattle.std.specs.Prelude.{find}
use Rattle.std.specs.List.{list_any}
use Rattle.std.specs.Str.{bytes_eq}
use Rattle.portal_base.specs.Ordered.{upserted}
use Rattle.packages.specs.Order.{dataset_cmp}
use Rattle.packages.specs.declared.package.Package.{Package}
use Rattle.harvest_sources.specs.Entries.{SourceEntry, sources_after}
use Rattle.harvest_sources.specs.Listings.{has_object}
use Rattle.harvest_sources.specs.Sources.{SourceState}
use Rattle.harvest_sources.specs.Steps.{is_accepted, stepped, with_open_job}
use Rattle.harvest_sources.specs.declared.listing.Listing.{Listing}
use Rattle.harvest_sources.specs.declared.reading.Reading.{Reading}
use Rattle.harvest_sources.specs.declared.reading.Reading.TheVariants.{Good, Bad}
use Rattle.harvest_sources.specs.declared.step.Effect.{Effect}
use Rattle.harvest_sources.specs.declared.step.Effect.TheVariants.{Plain, Added, Updated, Unchanged, Deleted}
use Rattle.harvest_sources.specs.declared.step.Step.{Step}
use Rattle.harvest_sources.specs.declared.step.Step.TheVariants.{NewRound, Begin, List as list, Break, Claim, Settle, End}
use Rattle.harvest_sources.specs.declared.step.StepReply.{StepReply}
use Rattle.harvest_results.specs.Equality.{equal_datasets}
use Rattle.harvest_results.specs.Harvested.{harvested_dataset}

-- what harvests work on: the sources with their jobs, and all datasets
pub record HarvestState : Type 0 where
  pub sources : List SourceState
  pub datasets : List Package

-- ---- what a step puts and drops, if it is accepted

-- the dataset is one of the source of that name
abbrev pub is_of_source : List ℕ → Package → Bool
is_of_source name d = bytes_eq d.source name

-- the dataset is one of the source, and its catalogue doesn't list the dataset's IRI
abbrev pub is_unlisted : List ℕ → Listing → Package → Bool
is_unlisted name listing d = is_of_source name d && not (has_object d.iri listing)

abbrev pub dataset_read : SourceState → List ℕ → Reading → Option Package
dataset_read s iri (Good r) = Some (harvested_dataset s.source iri r)
dataset_read s iri (Bad cause) = None

abbrev pub read_in : List ℕ → Reading → Option SourceState → Option Package
read_in iri reading None = None
read_in iri reading (Some s) = dataset_read s iri reading

-- the dataset of an object that is settled with a record
abbrev pub put_by : Step → HarvestState → Option Package
put_by NewRound state = None
put_by Begin state = None
put_by (list job items unnamed) state = None
put_by (Break job cause) state = None
put_by Claim state = None
put_by (Settle job iri reading) state = read_in iri reading (with_open_job state.sources job)
put_by (End job) state = None

abbrev pub gone_from : List ℕ → Option Listing → List Package → List Package
gone_from name None datasets = []
gone_from name (Some listing) datasets = filter (is_unlisted name listing) datasets

abbrev pub gone_of : Option SourceState → List Package → List Package
gone_of None datasets = []
gone_of (Some s) datasets = gone_from s.source.name s.listing datasets

-- the datasets of the ended job's source whose IRIs are no longer listed
abbrev pub dropped_by : Step → HarvestState → List Package
dropped_by NewRound state = []
dropped_by Begin state = []
dropped_by (list job items unnamed) state = []
dropped_by (Break job cause) state = []
dropped_by Claim state = []
dropped_by (Settle job iri reading) state = []
dropped_by (End job) state = gone_of (with_open_job state.sources job) state.datasets

-- ---- the effect

-- what a dataset that is put does, if this one has its name so far
abbrev pub effect_over : Package → Option Package → Effect
effect_over d None = Added
effect_over d (Some old) = if equal_datasets old d then Unchanged else Updated

abbrev pub effect_of_put : List Package → Option Package → Effect
effect_of_put datasets None = Plain
effect_of_put datasets (Some d) = effect_over d (find (λ old. bytes_eq old.name d.name) datasets)

-- what the step does to the datasets, if it is accepted
abbrev pub effect_of : Step → HarvestState → Effect
effect_of NewRound state = Plain
effect_of Begin state = Plain
effect_of (list job items unnamed) state = Plain
effect_of (Break job cause) state = Plain
effect_of Claim state = Plain
effect_of (Settle job iri reading) state = effect_of_put state.datasets (put_by (Settle job iri reading) state)
effect_of (End job) state = Deleted (length (dropped_by (End job) state))

-- ---- the step

-- The change of a step: the entries of sources and jobs, the dataset that is put, and those that are dropped, with the
-- answer.
pub record HarvestChange : Type 0 where
  pub entries : List SourceEntry
  pub put : Option Package
  pub gone : List Package
  pub reply : StepReply

-- the change of the step, which changes nothing if it isn't accepted
abbrev pub change_of_step : Step → HarvestState → HarvestChange
change_of_step step state =
    let s = stepped step (effect_of step state) state.sources in
    record {
      entries = s.entries;
      put = if is_accepted s.reply then put_by step state else None;
      gone = if is_accepted s.reply then dropped_by step state else [];
      reply = s.reply;
    }

-- with the dataset, in place of the one with its id
abbrev pub with_put : Option Package → List Package → List Package
with_put None datasets = datasets
with_put (Some d) datasets = upserted dataset_cmp d datasets

-- without those with the ids of these
abbrev pub without : List Package → List Package → List Package
without gone datasets = filter (λ d. not (list_any (λ other. bytes_eq other.id d.id) gone)) datasets

-- the state after the step
abbrev pub after_step : Step → HarvestState → HarvestState
after_step step state =
    let change = change_of_step step state in
    record {
      sources = sources_after change.entries state.sources;
      datasets = without change.gone (with_put change.put state.datasets);
    }
