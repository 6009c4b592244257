-- What a harvest reads, by the triples of the documents.
use Rattle.std.proofs.Common.{◌≡◌, ℕ, ◌<◌, ◌≤◌, Bool, true, false, cond, ltb, List, [], ◌∷◌, length, map, Option}
use Rattle.std.proofs.Common.{Some, None, Ok, Err, refl, sym, ap, ◌∙◌, inl, inr}
use Rattle.std.specs.List.{Contains}
use Rattle.std.proofs.lemmas.Bool.{lt-ltb, le-ltb}
use Rattle.portal_base.proofs.Unique.{IsIn, IsIn-Contains}
use Rattle.ntriples.specs.declared.term.Triple.{Triple}
use Rattle.dcat_map.specs.Graphs.{graph_of, is_described}
use Rattle.dcat_map.specs.Listings.{catalogued, listing_of}
use Rattle.dcat_map.specs.declared.listing.Listing.{Listing}
use Rattle.harvest_results.specs.Readings.{CatalogueReading, ListedIri}
use Rattle.harvest_results.specs.Readings.CatalogueReading.{Broken, Listed}
use Rattle.harvest_sources.specs.declared.cause.Cause.TheVariants.{Missing, TooLong, NoCatalog}
use Rattle.harvest_sources.specs.declared.reading.Reading.{Reading}
use Rattle.harvest_sources.specs.declared.source.HarvestSource.{HarvestSource}
use Rattle.harvest_readings.specs.Catalogues.{catalogue_by, catalogue_read, item_in, reading_in}
use Rattle.harvest_readings.specs.Documents.{graph_in, graphed, triples_in}
use Rattle.harvest_readings.specs.Harvests.{Documents, bytes_within, catalogue_reading, graph_at, graph_within}
use Rattle.harvest_readings.specs.Harvests.{listed_at, max_document, object_at, reading_of}

-- ---- the graph at a location

pub graph_at-missing : (documents : Documents) (location : List ℕ) → documents location ≡ None
    → graph_at documents false location ≡ Err Missing
graph_at-missing documents location e = ap (λ d. graph_within (bytes_within d)) e

pub graph_at-long : (documents : Documents) (location bytes : List ℕ) → documents location ≡ Some bytes
    → max_document < length bytes → graph_at documents false location ≡ Err TooLong
graph_at-long documents location bytes e long =
    ap (λ d. graph_within (bytes_within d)) e
    ∙ ap (λ b. graph_within (cond b (Err TooLong) (Ok bytes))) (lt-ltb max_document (length bytes) long)

pub graph_at-within : (documents : Documents) (location bytes : List ℕ) → documents location ≡ Some bytes
    → length bytes ≤ max_document → graph_at documents false location ≡ graph_in bytes
graph_at-within documents location bytes e within =
    ap (λ d. graph_within (bytes_within d)) e
    ∙ ap (λ b. graph_within (cond b (Err TooLong) (Ok bytes))) (le-ltb max_document (length bytes) within)

-- ---- what is listed

-- what is read by a listing of the graph
abbrev read_by : HarvestSource → Documents → (List ℕ → Bool) → List Triple → Option Listing → CatalogueReading
read_by source documents has_failed graph listing = reading_of source documents has_failed (catalogue_by graph listing)

-- the listing that a reading comes from
pub record ReadsListing (documents : Documents) (has_failed : List ℕ → Bool) (triples : List Triple)
    (items : List ListedIri) (unnamed : ℕ) : Type 0 where
  pub listing : Listing
  pub listed : listing_of triples ≡ Some listing
  pub read : items ≡ map (listed_at documents has_failed) (map (item_in (graph_of triples)) listing.iris)
  pub counted : unnamed ≡ listing.unnamed

from_listing : (source : HarvestSource) (documents : Documents) (has_failed : List ℕ → Bool) (triples : List Triple)
    (items : List ListedIri) (unnamed : ℕ) (listing : Option Listing) → listing_of triples ≡ listing
    → read_by source documents has_failed (graph_of triples) listing ≡ Listed source items unnamed
    → ReadsListing documents has_failed triples items unnamed
from_listing source documents has_failed triples items unnamed None e h = cc
from_listing source documents has_failed triples items unnamed (Some listing) e h =
    record { listing = listing; listed = e; read = cc; counted = cc }

-- a reading of the document of these bytes, by whether it is too long
abbrev read_unless : HarvestSource → Documents → (List ℕ → Bool) → List ℕ → Bool → CatalogueReading
read_unless source documents has_failed bytes long =
    reading_of source documents has_failed (catalogue_read (graph_within (cond long (Err TooLong) (Ok bytes))))

isn't_long : (source : HarvestSource) (documents : Documents) (has_failed : List ℕ → Bool) (bytes : List ℕ)
    (items : List ListedIri) (unnamed : ℕ) (long : Bool)
    → read_unless source documents has_failed bytes long ≡ Listed source items unnamed → long ≡ false
isn't_long source documents has_failed bytes items unnamed false h = refl
isn't_long source documents has_failed bytes items unnamed true h = cc

-- A reading of a document of these triples comes from their listing.
pub reads_listing : (source : HarvestSource) (documents : Documents) (has_failed : List ℕ → Bool)
    (triples : List Triple) (items : List ListedIri) (unnamed : ℕ) (bytes : List ℕ)
    → documents source.url ≡ Some bytes → triples_in bytes ≡ Ok triples
    → catalogue_reading source documents false has_failed ≡ Listed source items unnamed
    → ReadsListing documents has_failed triples items unnamed
unfolding listing_of
reads_listing source documents has_failed triples items unnamed bytes there parsed read =
    let by_bytes = ap (λ d. reading_of source documents has_failed (catalogue_read (graph_within (bytes_within d))))
    there in
    let long = ltb max_document (length bytes) in
    let short = isn't_long source documents has_failed bytes items unnamed long (sym by_bytes ∙ read) in
    let by_graph = ap (read_unless source documents has_failed bytes) short
    ∙ ap (λ ts. reading_of source documents has_failed (catalogue_read (graphed ts))) parsed in
    from_listing source documents has_failed triples items unnamed (catalogued (graph_of triples)) refl
    (sym by_graph ∙ (sym by_bytes ∙ read))

-- The items have the IRIs of the listing.
iris_again : (documents : Documents) (has_failed : List ℕ → Bool) (graph : List Triple) (iris : List (List ℕ))
    → map (λ (i : ListedIri). i.iri) (map (listed_at documents has_failed) (map (item_in graph) iris)) ≡ iris
iris_again documents has_failed graph [] = refl
iris_again documents has_failed graph (iri ∷ iris) = ap (λ l. iri ∷ l) (iris_again documents has_failed graph iris)

pub iris_of_reading : (documents : Documents) (has_failed : List ℕ → Bool) (triples : List Triple)
    (items : List ListedIri) (unnamed : ℕ) (r : ReadsListing documents has_failed triples items unnamed)
    → map (λ (i : ListedIri). i.iri) items ≡ r.listing.iris
iris_of_reading documents has_failed triples items unnamed r =
    ap (map (λ (i : ListedIri). i.iri)) r.read ∙ iris_again documents has_failed (graph_of triples) r.listing.iris

-- A document without a catalogue breaks.
pub reads_no_catalogue : (source : HarvestSource) (documents : Documents) (has_failed : List ℕ → Bool)
    (triples : List Triple) (bytes : List ℕ) → documents source.url ≡ Some bytes → length bytes ≤ max_document
    → triples_in bytes ≡ Ok triples → listing_of triples ≡ None
    → catalogue_reading source documents false has_failed ≡ Broken NoCatalog
unfolding listing_of
reads_no_catalogue source documents has_failed triples bytes there within parsed none =
    ap (λ g. reading_of source documents has_failed (catalogue_read g))
    (graph_at-within documents source.url bytes there within ∙ ap graphed parsed)
    ∙ ap (read_by source documents has_failed (graph_of triples)) none

-- ---- where each is read

-- The item is what the graph and the documents give of its IRI.
pub item_again : (documents : Documents) (has_failed : List ℕ → Bool) (graph : List Triple) (iris : List (List ℕ))
    (item : ListedIri) → IsIn item (map (listed_at documents has_failed) (map (item_in graph) iris))
    → item ≡ listed_at documents has_failed (item_in graph item.iri)
item_again documents has_failed graph [] item m = absurd m
item_again documents has_failed graph (iri ∷ iris) item (inl e) =
    e ∙ ap (λ (i : List ℕ). listed_at documents has_failed (item_in graph i)) (sym (ap (λ (i : ListedIri). i.iri) e))
item_again documents has_failed graph (iri ∷ iris) item (inr m) =
    item_again documents has_failed graph iris item m

pub item_of_reading : (documents : Documents) (has_failed : List ℕ → Bool) (triples : List Triple)
    (items : List ListedIri) (unnamed : ℕ) (item : ListedIri)
    → ReadsListing documents has_failed triples items unnamed → Contains items item
    → item ≡ listed_at documents has_failed (item_in (graph_of triples) item.iri)
item_of_reading documents has_failed triples items unnamed item r m =
    item_again documents has_failed (graph_of triples) r.listing.iris item (rw r.read at (IsIn-Contains item items m))

-- the reading of an IRI, by whether the graph describes it
abbrev reading_if : Documents → (List ℕ → Bool) → List Triple → List ℕ → Bool → Reading
reading_if documents has_failed graph iri is =
    cond is (reading_in graph iri) (object_at documents (has_failed iri) iri)

by_described : (documents : Documents) (has_failed : List ℕ → Bool) (graph : List Triple) (iri : List ℕ) (is : Bool)
    → is_described graph iri ≡ is
    → (listed_at documents has_failed (item_in graph iri)).reading ≡ reading_if documents has_failed graph iri is
by_described documents has_failed graph iri true e = rw e refl
by_described documents has_failed graph iri false e = rw e refl

pub reading_of_item : (documents : Documents) (has_failed : List ℕ → Bool) (triples : List Triple)
    (items : List ListedIri) (unnamed : ℕ) (item : ListedIri) (is : Bool)
    → ReadsListing documents has_failed triples items unnamed → Contains items item
    → is_described (graph_of triples) item.iri ≡ is
    → item.reading ≡ reading_if documents has_failed (graph_of triples) item.iri is
reading_of_item documents has_failed triples items unnamed item is r m e =
    ap (λ (i : ListedIri). i.reading) (item_of_reading documents has_failed triples items unnamed item r m)
    ∙ by_described documents has_failed (graph_of triples) item.iri is e
