-- What a harvest leaves of a source's datasets.
use Rattle.std.specs.Prelude.{◌≡◌, ℕ, ◌&&◌, List, [], Contains, Option, Some, None, find}
use Rattle.std.specs.List.{filter_map}
use Rattle.std.specs.Str.{bytes_eq}
use Rattle.packages.specs.declared.package.Package.{Package}
use Rattle.harvest_records.specs.Names.{harvested_name}
use Rattle.harvest_records.specs.declared.record.HarvestRecord.{HarvestRecord}
use Rattle.harvest_results.specs.Harvested.{harvested_dataset}
use Rattle.harvest_results.specs.Readings.{CatalogueReading, ListedIri, is_listed, least_named, listed_names}
use Rattle.harvest_results.specs.Readings.CatalogueReading.{Broken, Listed}
use Rattle.harvest_sources.specs.declared.reading.Reading.{Reading}
use Rattle.harvest_sources.specs.declared.reading.Reading.TheVariants.{Good, Bad}
use Rattle.harvest_sources.specs.declared.source.HarvestSource.{HarvestSource}

-- the old dataset of the name, if its IRI is listed
abbrev pub kept_dataset : List Package → List ListedIri → List ℕ → Option Package
kept_dataset old items name = find (λ d. bytes_eq d.name name && is_listed items d.iri) old

-- the dataset of a record, and otherwise the kept one
abbrev pub harvested_or : Option Package → HarvestSource → List ℕ → Reading → Option Package
harvested_or kept source iri (Good r) = Some (harvested_dataset source iri r)
harvested_or kept source iri (Bad cause) = kept

-- the same for the least item of a name; without an item there is no dataset
abbrev pub dataset_of_item : Option Package → HarvestSource → Option ListedIri → Option Package
dataset_of_item kept source None = None
dataset_of_item kept source (Some item) = harvested_or kept source item.iri item.reading

-- the dataset of the name that is left
abbrev pub dataset_left : List Package → HarvestSource → List ListedIri → List ℕ → Option Package
dataset_left old source items name =
    dataset_of_item (kept_dataset old items name) source (least_named source items name)

-- The datasets of the source after a harvest, ascending by name: for each name of a listed IRI, the dataset of the least
-- IRI's record, or if that has none, the old dataset of the name, if its IRI is still listed. No others are left. A
-- harvest without a catalogue leaves the old datasets.
abbrev pub datasets_after : List Package → CatalogueReading → List Package
datasets_after old (Broken cause) = old
datasets_after old (Listed source items unnamed) =
    filter_map (dataset_left old source items) (listed_names source items)

-- the same if the source had none before: the datasets of the records
abbrev pub datasets_afresh : CatalogueReading → List Package
datasets_afresh reading = datasets_after [] reading

-- the dataset is that of the record of one of the items
pub record IsRead (source : HarvestSource) (items : List ListedIri) (d : Package) : Type 0 where
  pub item : ListedIri
  pub description : HarvestRecord
  pub listed : Contains items item
  pub read : item.reading ≡ Good description
  pub gives : d ≡ harvested_dataset source item.iri description

-- The dataset is in the source's organization, and its name and id are what the source and its IRI give.
pub record IsOwn (source : HarvestSource) (d : Package) : Type 0 where
  pub of_source : d.source ≡ source.name
  pub of_org : d.owner_org ≡ source.owner_org
  pub named : d.name ≡ harvested_name source.name d.iri
  pub id_is_name : d.id ≡ d.name
