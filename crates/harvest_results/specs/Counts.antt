-- How many datasets a harvest adds, changes and deletes, and which IRIs are bad.
use Rattle.std.specs.Prelude.{ℕ, Bool, not, ◌&&◌, List, [], Option, Some, None}
use Rattle.std.specs.List.{count_by, filter_map, list_any}
use Rattle.std.specs.Str.{bytes_eq}
use Rattle.packages.specs.declared.package.Package.{Package}
use Rattle.harvest_results.specs.Equality.{equal_datasets}
use Rattle.harvest_sources.specs.declared.cause.Cause.{Cause}
use Rattle.harvest_sources.specs.declared.job.SourceReport.{SourceReport}
use Rattle.harvest_sources.specs.declared.reading.Reading.{Reading}
use Rattle.harvest_sources.specs.declared.reading.Reading.TheVariants.{Good, Bad}
use Rattle.harvest_results.specs.Readings.{CatalogueReading, ListedIri, items_by_iri}
use Rattle.harvest_results.specs.Readings.CatalogueReading.{Broken, Listed}
use Rattle.harvest_results.specs.Results.{datasets_after, datasets_afresh}

-- what a harvest counts
pub record Counts : Type 0 where
  pub added : ℕ
  pub updated : ℕ
  pub unchanged : ℕ
  pub deleted : ℕ
  pub unnamed : ℕ

-- one of the datasets has the name of this one
abbrev pub has_name_of : List Package → Package → Bool
has_name_of datasets d = list_any (λ e. bytes_eq e.name d.name) datasets

-- one of the datasets equals this one
abbrev pub has_equal_of : List Package → Package → Bool
has_equal_of datasets d = list_any (λ e. equal_datasets e d) datasets

-- Added are the datasets whose names are new, deleted those whose names are no longer there. Of the datasets that the
-- records give under old names, those that equal an old dataset are unchanged, and the others are updated. Without a
-- catalogue all counts are 0.
abbrev pub counts_of : List Package → CatalogueReading → Counts
counts_of old (Broken cause) = record { added = 0; updated = 0; unchanged = 0; deleted = 0; unnamed = 0 }
counts_of old (Listed source items unnamed) =
    let reading = Listed source items unnamed in
    record {
      added = count_by (λ d. not (has_name_of old d)) (datasets_after old reading);
      updated = count_by (λ d. has_name_of old d && not (has_equal_of old d)) (datasets_afresh reading);
      unchanged = count_by (has_equal_of old) (datasets_afresh reading);
      deleted = count_by (λ d. not (has_name_of (datasets_after old reading) d)) old;
      unnamed = unnamed;
    }

-- ---- reports

-- what the report counts
abbrev pub counts_in : SourceReport → Counts
counts_in report = record {
  added = report.added;
  updated = report.updated;
  unchanged = report.unchanged;
  deleted = report.deleted;
  unnamed = report.unnamed;
}

-- the IRI with the cause, if there is no record
abbrev pub bad_reading : List ℕ → Reading → Option (List ℕ × Cause)
bad_reading iri (Good r) = None
bad_reading iri (Bad cause) = Some (iri, cause)

abbrev pub bad_item : ListedIri → Option (List ℕ × Cause)
bad_item item = bad_reading item.iri item.reading

-- The IRIs that have no record, ascending, each with the cause.
abbrev pub bad_of : CatalogueReading → List (List ℕ × Cause)
bad_of (Broken cause) = []
bad_of (Listed source items unnamed) = filter_map bad_item (items_by_iri items)
