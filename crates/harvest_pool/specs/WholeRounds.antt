-- What a whole round leaves of sources and datasets, and what it reports, by what the documents say and which fetches failed.
use Rattle.std.specs.Prelude.{◌≡◌, ◌+◌, ℕ, if◌then◌else◌, not, ◌&&◌, Bool, false, List, [], ◌∷◌, count_by, filter, map, Option, Some, None}
use Rattle.std.specs.Prelude.{Result, Ok, Err}
use Rattle.std.specs.List.{All, filter_map, list_any}
use Rattle.std.specs.Option.{option_map_or}
use Rattle.std.specs.Str.{bytes_eq}
use Rattle.portal_base.specs.Ordered.{upserted}
use Rattle.packages.specs.Order.{dataset_cmp}
use Rattle.packages.specs.declared.package.Package.{Package}
use Rattle.harvest_readings.specs.Harvests.{Documents, catalogue_at, is_read_fault, reading_at}
use Rattle.harvest_readings.specs.declared.catalogue.Catalogue.{Catalogue}
use Rattle.harvest_results.specs.Counts.{Counts, bad_of, counts_of}
use Rattle.harvest_results.specs.Effects.{HarvestState, is_of_source}
use Rattle.harvest_results.specs.Histories.{HasItsNames, IsFit}
use Rattle.harvest_results.specs.Readings.{CatalogueReading, ListedIri}
use Rattle.harvest_results.specs.Readings.CatalogueReading.{Broken, Listed}
use Rattle.harvest_results.specs.Results.{datasets_after}
use Rattle.harvest_sources.specs.Entries.{with_job, with_listing}
use Rattle.harvest_sources.specs.Jobs.{blank_report, with_report}
use Rattle.harvest_sources.specs.Listings.{first_items, has_lesser_namesake}
use Rattle.harvest_sources.specs.Sources.{AreSources, SourceState, open_job}
use Rattle.harvest_sources.specs.Steps.{has_new, has_running}
use Rattle.harvest_sources.specs.declared.cause.Cause.{Cause}
use Rattle.harvest_sources.specs.declared.cause.Cause.TheVariants.{SameName}
use Rattle.harvest_sources.specs.declared.job.JobState.{JobState}
use Rattle.harvest_sources.specs.declared.job.JobState.TheVariants as state
use Rattle.harvest_sources.specs.declared.job.SourceReport.{SourceReport}
use Rattle.harvest_sources.specs.declared.reading.Reading.TheVariants.{Bad}
use Rattle.harvest_sources.specs.declared.source.HarvestSource.{HarvestSource}
use Rattle.harvest_sources.specs.declared.step.Item.{Item}

-- ---- failed fetches

-- The fetches of a round that failed: that of a source's catalogue, by its name, and those of its datasets' own documents, by
-- the source's name and the IRI.
pub record Failures : Type 0 where
  pub catalogue : List ℕ → Bool
  pub object : List ℕ → List ℕ → Bool

abbrev pub broke_by_failure : JobState → Bool
broke_by_failure state.New = false
broke_by_failure state.Running = false
broke_by_failure state.Finished = false
broke_by_failure (state.Broken cause) = is_read_fault cause

-- how many failed fetches the report tells of: that of the catalogue, and those of its datasets' own documents
abbrev pub failures_in : SourceReport → ℕ
failures_in r = (if broke_by_failure r.state then 1 else 0) + count_by (λ bad. is_read_fault bad.1) r.bad

-- the failed fetches that reports tell of
abbrev pub failures_told : List SourceReport → Failures
failures_told reports = record {
  catalogue = λ name. list_any (λ r. bytes_eq r.source name && broke_by_failure r.state) reports;
  object = λ name iri.
      list_any (λ r. bytes_eq r.source name && list_any (λ bad. bytes_eq bad.0 iri && is_read_fault bad.1) r.bad) reports;
}

-- ---- what is read

-- What is read of a listed item. Of items whose datasets have one name, the one of the least IRI alone is read.
abbrev pub item_read : Documents → (List ℕ → Bool) → HarvestSource → List Item → Item → ListedIri
item_read documents has_failed source items item = record {
  iri = item.iri;
  reading =
      if has_lesser_namesake source.name (first_items items) item then Bad SameName
      else reading_at documents has_failed item.iri item.found;
}

-- what is read of a catalogue, by what it lists or by why there is nothing
abbrev pub all_read : Documents → (List ℕ → Bool) → HarvestSource → Result Catalogue Cause → CatalogueReading
all_read documents has_failed source (Ok catalogue) =
    Listed source (map (item_read documents has_failed source catalogue.items) catalogue.items) catalogue.unnamed
all_read documents has_failed source (Err cause) = Broken cause

-- what is read of the source's catalogue, by whether the fetch of the catalogue failed, and by which IRIs have documents
-- whose fetch failed
abbrev pub source_read : Documents → Bool → (List ℕ → Bool) → HarvestSource → CatalogueReading
source_read documents failed has_failed source =
    all_read documents has_failed source (catalogue_at documents failed source.url)

-- what a round reads of the source's catalogue
abbrev pub round_reading : Documents → Failures → HarvestSource → CatalogueReading
round_reading documents failures source =
    source_read documents (failures.catalogue source.name) (failures.object source.name) source

-- ---- what is reported

abbrev pub report_of_counts : List ℕ → Counts → CatalogueReading → SourceReport
report_of_counts name counts reading = record {
  source = name;
  state = state.Finished;
  added = counts.added;
  updated = counts.updated;
  unchanged = counts.unchanged;
  deleted = counts.deleted;
  unnamed = counts.unnamed;
  bad = bad_of reading;
}

-- the report on a job of the source, which had the old datasets, by what was read of its catalogue
abbrev pub report_on : List ℕ → List Package → CatalogueReading → SourceReport
report_on name old (Broken cause) = blank_report name (state.Broken cause)
report_on name old (Listed source items unnamed) =
    report_of_counts name (counts_of old (Listed source items unnamed)) (Listed source items unnamed)

-- the datasets of the source of that name
abbrev pub own_datasets : List ℕ → List Package → List Package
own_datasets name datasets = filter (is_of_source name) datasets

-- the report that a round gives on the source, by the datasets from before the round
abbrev pub round_report : Documents → Failures → List Package → SourceState → SourceReport
round_report documents failures datasets s =
    report_on s.source.name (own_datasets s.source.name datasets) (round_reading documents failures s.source)

abbrev pub report_if_new : Documents → Failures → List Package → SourceState → Option SourceReport
report_if_new documents failures datasets s =
    if has_new s then Some (round_report documents failures datasets s) else None

-- The reports of a round: one on each source that has a new job, in the order of the sources.
abbrev pub round_reports : Documents → Failures → HarvestState → List SourceReport
round_reports documents failures before = filter_map (report_if_new documents failures before.datasets) before.sources

-- ---- what is left

-- the source whose open job ended with the report
abbrev pub with_job_ended : SourceReport → SourceState → SourceState
with_job_ended report s = option_map_or (λ job. with_job (with_report report job) (with_listing None s)) (open_job s) s

abbrev pub source_after : Documents → Failures → List Package → SourceState → SourceState
source_after documents failures datasets s =
    if has_new s then with_job_ended (round_report documents failures datasets s) s else s

-- the datasets with these put among them, each in place of the one with its id
abbrev pub with_all : List Package → List Package → List Package
with_all [] datasets = datasets
with_all (d ∷ ds) datasets = upserted dataset_cmp d (with_all ds datasets)

-- the datasets with these in place of those of the source of that name
abbrev pub with_own : List ℕ → List Package → List Package → List Package
with_own name own datasets = with_all own (filter (λ d. not (is_of_source name d)) datasets)

-- the datasets that harvesting the source leaves of these, which it had before the round
abbrev pub own_after : Documents → Failures → List Package → HarvestSource → List Package
own_after documents failures before source =
    datasets_after (own_datasets source.name before) (round_reading documents failures source)

-- The datasets after the round: those of each source that has a new job are replaced by what harvesting it leaves.
abbrev pub datasets_after_round : Documents → Failures → List Package → List SourceState → List Package
datasets_after_round documents failures before [] = before
datasets_after_round documents failures before (s ∷ ss) =
    if has_new s
    then with_own s.source.name (own_after documents failures before s.source)
    (datasets_after_round documents failures before ss)
    else datasets_after_round documents failures before ss

-- The sources and datasets after a whole round from these, in which no job was running: each new job has ended, and the
-- datasets of its source are what harvesting it leaves.
abbrev pub after_round : Documents → Failures → HarvestState → HarvestState
after_round documents failures before = record {
  sources = map (source_after documents failures before.datasets) before.sources;
  datasets = datasets_after_round documents failures before.datasets before.sources;
}

-- ---- where a round may begin

-- No job is running. The datasets of each source are its own, and no others have a name that it gives.
pub record IsAtRest (before : HarvestState) : Type 0 where
  pub sources : AreSources before.sources
  pub none_runs : All (λ s. has_running s ≡ false) before.sources
  pub fit : All (λ s. IsFit s.source before) before.sources
  pub named : All (λ s. HasItsNames s.source before) before.sources
