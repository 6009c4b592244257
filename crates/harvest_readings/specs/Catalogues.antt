-- What graphs give: catalogues (DCAT 3, section 6.3) and records of datasets (section 6.6).
use Rattle.std.specs.Prelude.{ℕ, if◌then◌else◌, List, map, Option, Some, None, Result, Ok, Err}
use Rattle.ntriples.specs.declared.term.Triple.{Triple}
use Rattle.harvest_records.specs.declared.record.HarvestRecord.{HarvestRecord}
use Rattle.dcat_map.specs.Graphs.{is_described}
use Rattle.dcat_map.specs.Listings.{catalogued}
use Rattle.dcat_map.specs.Records.{description_in}
use Rattle.dcat_map.specs.declared.listing.Listing.{Listing}
use Rattle.dcat_map.specs.declared.record.RecordFault.{RecordFault}
use Rattle.dcat_map.specs.declared.record.RecordFault.TheVariants as fault
use Rattle.harvest_sources.specs.declared.cause.Cause.{Cause}
use Rattle.harvest_sources.specs.declared.cause.Cause.TheVariants as cause
use Rattle.harvest_sources.specs.declared.reading.Reading.{Reading}
use Rattle.harvest_sources.specs.declared.reading.Reading.TheVariants.{Good, Bad}
use Rattle.harvest_sources.specs.declared.step.Found.{Found}
use Rattle.harvest_sources.specs.declared.step.Found.TheVariants.{Here, Elsewhere}
use Rattle.harvest_sources.specs.declared.step.Item.{Item}
use Rattle.harvest_readings.specs.declared.catalogue.Catalogue.{Catalogue}

-- The reading of a dataset by its record, or by why there is none. No definition gives want of memory.
abbrev pub reading_by : Result HarvestRecord RecordFault → Reading
reading_by (Ok r) = Good r
reading_by (Err fault.NotDescribed) = Bad cause.NotDescribed
reading_by (Err fault.NoTitle) = Bad cause.NoTitle
reading_by (Err fault.OutOfMemory) = Bad cause.NotDescribed

-- what the graph says of the dataset of that IRI
abbrev pub reading_in : List Triple → List ℕ → Reading
reading_in graph iri = reading_by (description_in graph iri)

-- A listed dataset is read in the catalogue's own graph where that describes it, and else elsewhere.
abbrev pub found_in : List Triple → List ℕ → Found
found_in graph iri = if is_described graph iri then Here (reading_in graph iri) else Elsewhere

-- the item of a listed dataset
abbrev pub item_in : List Triple → List ℕ → Item
item_in graph iri = record { iri = iri; found = found_in graph iri }

-- the items of a listing, if there is one
abbrev pub catalogue_by : List Triple → Option Listing → Result Catalogue Cause
catalogue_by graph None = Err cause.NoCatalog
catalogue_by graph (Some listing) =
    Ok (record { items = map (item_in graph) listing.iris; unnamed = listing.unnamed })

-- what the graph's catalogues list
abbrev pub catalogue_in : List Triple → Result Catalogue Cause
catalogue_in graph = catalogue_by graph (catalogued graph)

-- what a catalogue's document gives, by its graph or why there is none
abbrev pub catalogue_read : Result (List Triple) Cause → Result Catalogue Cause
catalogue_read (Ok graph) = catalogue_in graph
catalogue_read (Err why) = Err why

-- what a document of the dataset's own gives, likewise
abbrev pub object_read : Result (List Triple) Cause → List ℕ → Reading
object_read (Ok graph) iri = reading_in graph iri
object_read (Err why) iri = Bad why
