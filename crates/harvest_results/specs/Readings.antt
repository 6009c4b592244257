-- What a harvest reads of a source's catalogue.
use Rattle.std.specs.Prelude.{ℕ, ◌==◌, Bool, true, false, ◌&&◌, List, [], ◌∷◌, Option, find}
use Rattle.std.specs.declared.cmp.Ordering.{Ordering}
use Rattle.std.specs.Ordering.{nat_cmp}
use Rattle.std.specs.Cmp.Lexicographic.{slice_cmp}
use Rattle.std.specs.List.{list_all, list_any}
use Rattle.std.specs.Str.{bytes_eq}
use Rattle.portal_base.specs.Ordered.{upserted}
use Rattle.harvest_records.specs.Names.{harvested_name}
use Rattle.harvest_sources.specs.declared.cause.Cause.{Cause}
use Rattle.harvest_sources.specs.declared.reading.Reading.{Reading}
use Rattle.harvest_sources.specs.declared.reading.Reading.TheVariants.{Good, Bad}
use Rattle.harvest_sources.specs.declared.source.HarvestSource.{HarvestSource}

-- an IRI that the catalogue lists, with what was read of its dataset
pub record ListedIri : Type 0 where
  pub iri : List ℕ
  pub reading : Reading

-- A catalogue couldn't be read for this cause, or it is that of this source, with these IRIs and this count of objects
-- that have no IRI. Where an IRI repeats, its first item counts.
pub data CatalogueReading : Type 0 where
  Broken : Cause → CatalogueReading
  Listed : HarvestSource → List ListedIri → ℕ → CatalogueReading

-- by the bytes of the IRI
abbrev pub iri_cmp : ListedIri → ListedIri → Ordering
iri_cmp x y = slice_cmp nat_cmp x.iri y.iri

-- the items ascending by IRI, each IRI once, with its first item
abbrev pub items_by_iri : List ListedIri → List ListedIri
items_by_iri [] = []
items_by_iri (item ∷ items) = upserted iri_cmp item (items_by_iri items)

-- one of the items has the IRI
abbrev pub is_listed : List ListedIri → List ℕ → Bool
is_listed items iri = list_any (λ item. bytes_eq item.iri iri) items

-- the name of an item's dataset
abbrev pub item_name : HarvestSource → ListedIri → List ℕ
item_name source item = harvested_name source.name item.iri

-- the names of the items' datasets, ascending, each once
abbrev pub listed_names : HarvestSource → List ListedIri → List (List ℕ)
listed_names source [] = []
listed_names source (item ∷ items) = upserted (slice_cmp nat_cmp) (item_name source item) (listed_names source items)

-- of the items whose dataset has the name, that of the least IRI
abbrev pub least_named : HarvestSource → List ListedIri → List ℕ → Option ListedIri
least_named source items name = find (λ item. bytes_eq (item_name source item) name) (items_by_iri items)

-- there is a record
abbrev pub is_good : Reading → Bool
is_good (Good r) = true
is_good (Bad cause) = false

-- There is a catalogue, whose objects all have IRIs and records.
abbrev pub is_whole : CatalogueReading → Bool
is_whole (Broken cause) = false
is_whole (Listed source items unnamed) = list_all (λ item. is_good item.reading) (items_by_iri items) && unnamed == 0
