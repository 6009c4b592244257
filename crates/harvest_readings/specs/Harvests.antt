-- What a harvest reads of the documents at their locations.
use Rattle.std.specs.Prelude.{◌≡◌, ℕ, if◌then◌else◌, nat_lt, Bool, true, false, List, length, map, Option, Some, None}
use Rattle.std.specs.Prelude.{Result, Ok, Err}
use Rattle.ntriples.specs.Document.{IsDocument}
use Rattle.ntriples.specs.declared.term.Triple.{Triple}
use Rattle.harvest_results.specs.Readings.{CatalogueReading, ListedIri}
use Rattle.harvest_results.specs.Readings.CatalogueReading.{Broken, Listed}
use Rattle.harvest_sources.specs.declared.cause.Cause.{Cause}
use Rattle.harvest_sources.specs.declared.cause.Cause.TheVariants.{ReadFault, Missing, TooLong}
use Rattle.harvest_sources.specs.declared.reading.Reading.{Reading}
use Rattle.harvest_sources.specs.declared.reading.Reading.TheVariants.{Good, Bad}
use Rattle.harvest_sources.specs.declared.source.HarvestSource.{HarvestSource}
use Rattle.harvest_sources.specs.declared.step.Found.{Found}
use Rattle.harvest_sources.specs.declared.step.Found.TheVariants.{Here, Elsewhere}
use Rattle.harvest_sources.specs.declared.step.Item.{Item}
use Rattle.harvest_readings.specs.Catalogues.{catalogue_read, object_read}
use Rattle.harvest_readings.specs.Documents.{graph_in}
use Rattle.harvest_readings.specs.declared.catalogue.Catalogue.{Catalogue}

-- the bytes of the document at each location
abbrev pub Documents : Type 0
Documents = List ℕ → Option (List ℕ)

-- the most bytes of a document: 64 MiB
abbrev pub max_document : ℕ
max_document = 67108864

-- the bytes at a location, if a document is there and isn't too long
abbrev pub bytes_within : Option (List ℕ) → Result (List ℕ) Cause
bytes_within None = Err Missing
bytes_within (Some bytes) = if nat_lt max_document (length bytes) then Err TooLong else Ok bytes

-- the graph of these bytes, or why there are none
abbrev pub graph_within : Result (List ℕ) Cause → Result (List Triple) Cause
graph_within (Ok bytes) = graph_in bytes
graph_within (Err cause) = Err cause

-- the graph of the document at the location, or why there is none, by whether its fetch failed
abbrev pub graph_at : Documents → Bool → List ℕ → Result (List Triple) Cause
graph_at documents failed location =
    if failed then Err ReadFault else graph_within (bytes_within (documents location))

-- what the catalogue at the location lists
abbrev pub catalogue_at : Documents → Bool → List ℕ → Result Catalogue Cause
catalogue_at documents failed location = catalogue_read (graph_at documents failed location)

-- what the document at its IRI says of a dataset
abbrev pub object_at : Documents → Bool → List ℕ → Reading
object_at documents failed iri = object_read (graph_at documents failed iri) iri

-- what is read of a listed dataset, in the catalogue's document or in its own
abbrev pub reading_at : Documents → (List ℕ → Bool) → List ℕ → Found → Reading
reading_at documents has_failed iri (Here reading) = reading
reading_at documents has_failed iri Elsewhere = object_at documents (has_failed iri) iri

-- the listed IRI with what is read of it
abbrev pub listed_at : Documents → (List ℕ → Bool) → Item → ListedIri
listed_at documents has_failed item =
    record { iri = item.iri; reading = reading_at documents has_failed item.iri item.found }

-- the reading of a catalogue, by what it lists or by why there is nothing
abbrev pub reading_of : HarvestSource → Documents → (List ℕ → Bool) → Result Catalogue Cause → CatalogueReading
reading_of source documents has_failed (Ok catalogue) =
    Listed source (map (listed_at documents has_failed) catalogue.items) catalogue.unnamed
reading_of source documents has_failed (Err cause) = Broken cause

-- What a harvest reads of a source's catalogue, by whether the fetch of the catalogue failed, and by which IRIs have
-- documents whose fetch failed.
abbrev pub catalogue_reading : HarvestSource → Documents → Bool → (List ℕ → Bool) → CatalogueReading
catalogue_reading source documents failed has_failed =
    reading_of source documents has_failed (catalogue_at documents failed source.url)

-- The document at the source's location has these triples, and a harvest that could fetch it read these items and this
-- count of objects without an IRI.
pub record IsRead (source : HarvestSource) (documents : Documents) (has_failed : List ℕ → Bool)
    (triples : List Triple) (items : List ListedIri) (unnamed : ℕ) : Type 0 where
  pub bytes : List ℕ
  pub there : documents source.url ≡ Some bytes
  pub document : IsDocument bytes triples
  pub read : catalogue_reading source documents false has_failed ≡ Listed source items unnamed

-- the cause is that of a fetch that failed
abbrev pub is_read_fault : Cause → Bool
is_read_fault ReadFault = true
is_read_fault cause = false

-- what was read of a catalogue tells that its fetch failed
abbrev pub has_failed_catalogue : Result Catalogue Cause → Bool
has_failed_catalogue (Ok catalogue) = false
has_failed_catalogue (Err cause) = is_read_fault cause

-- what was read of a dataset tells that the fetch of its document failed
abbrev pub has_failed_object : Reading → Bool
has_failed_object (Good r) = false
has_failed_object (Bad cause) = is_read_fault cause
