-- No document is read as one whose fetch failed.
use Rattle.std.proofs.Common.{◌≡◌, ℕ, ◌+◌, Bool, true, false, cond, ltb, List, [], ◌∷◌, length, Option, Some, None}
use Rattle.std.proofs.Common.{Result, Ok, Err, refl, ap, sym}
use Rattle.std.specs.Prelude.{IfOk}
use Rattle.std.proofs.lemmas.Result.{IfOk-at_ok}
use Rattle.ntriples.specs.Document.{lines}
use Rattle.ntriples.specs.ParsedLines.{line_of}
use Rattle.ntriples.specs.declared.term.Triple.{Triple}
use Rattle.harvest_records.specs.declared.record.HarvestRecord.{HarvestRecord}
use Rattle.dcat_map.specs.Listings.{catalogued}
use Rattle.dcat_map.specs.Records.{description_in}
use Rattle.dcat_map.specs.declared.listing.Listing.{Listing}
use Rattle.dcat_map.specs.declared.record.RecordFault.{RecordFault}
use Rattle.dcat_map.specs.declared.record.RecordFault.TheVariants as fault
use Rattle.harvest_sources.specs.declared.cause.Cause.{Cause}
use Rattle.harvest_sources.specs.declared.cause.Cause.TheVariants.{ReadFault, Missing, TooLong, NotNTriples, NoCatalog}
use Rattle.harvest_sources.specs.declared.cause.Cause.TheVariants.{NotDescribed, NoTitle, SameName}
use Rattle.harvest_sources.specs.declared.reading.Reading.{Reading}
use Rattle.harvest_sources.specs.declared.reading.Reading.TheVariants.{Good, Bad}
use Rattle.harvest_readings.specs.declared.catalogue.Catalogue.{Catalogue}
use Rattle.harvest_readings.specs.Catalogues.{catalogue_by, catalogue_read, object_read, reading_by}
use Rattle.harvest_readings.specs.Harvests.{Documents, bytes_within, catalogue_at, graph_at, graph_within, max_document}
use Rattle.harvest_readings.specs.Harvests.{has_failed_catalogue, has_failed_object, is_read_fault, object_at}
use Rattle.harvest_readings.specs.Documents.{graph_in, graphed, line_onto_later, triples_from, triples_in}

line-not_failed : (number : ℕ) (line : Option (Option Triple)) (later : Result (List Triple) Cause)
    → (later ≡ Err ReadFault → ⊥) → line_onto_later number line later ≡ Err ReadFault → ⊥
line-not_failed number None later never h = cc
line-not_failed number (Some triple) (Ok triples) never h = cc
line-not_failed number (Some triple) (Err why) never h = never h

triples-not_failed : (number : ℕ) (ls : List (List ℕ)) → triples_from number ls ≡ Err ReadFault → ⊥
triples-not_failed number [] h = cc
triples-not_failed number (l ∷ ls) h =
    line-not_failed number (line_of l) (triples_from (number + 1) ls) (triples-not_failed (number + 1) ls) h

graphed-not_failed : (read : Result (List Triple) Cause) → (read ≡ Err ReadFault → ⊥) → graphed read ≡ Err ReadFault
    → ⊥
graphed-not_failed (Ok triples) never h = cc
graphed-not_failed (Err why) never h = never h

graph-not_failed : (bytes : List ℕ) → graph_in bytes ≡ Err ReadFault → ⊥
unfolding triples_in
graph-not_failed bytes h = graphed-not_failed (triples_in bytes) (triples-not_failed 1 (lines bytes)) h

reading-not_failed : (found : Result HarvestRecord RecordFault) → reading_by found ≡ Bad ReadFault → ⊥
reading-not_failed (Ok r) h = cc
reading-not_failed (Err fault.NotDescribed) h = cc
reading-not_failed (Err fault.NoTitle) h = cc
reading-not_failed (Err fault.OutOfMemory) h = cc

object-not_failed : (read : Result (List Triple) Cause) (iri : List ℕ) → (read ≡ Err ReadFault → ⊥)
    → object_read read iri ≡ Bad ReadFault → ⊥
object-not_failed (Ok graph) iri never h = reading-not_failed (description_in graph iri) h
object-not_failed (Err why) iri never h =
    let e : why ≡ ReadFault = cc in
    never (cc)

listing-not_failed : (graph : List Triple) (listing : Option Listing) → catalogue_by graph listing ≡ Err ReadFault → ⊥
listing-not_failed graph None h = cc
listing-not_failed graph (Some listing) h = cc

catalogue-not_failed : (read : Result (List Triple) Cause) → (read ≡ Err ReadFault → ⊥)
    → catalogue_read read ≡ Err ReadFault → ⊥
catalogue-not_failed (Ok graph) never h = listing-not_failed graph (catalogued graph) h
catalogue-not_failed (Err why) never h =
    let e : why ≡ ReadFault = cc in
    never (cc)

-- No document of a dataset's own is read so.
pub read_object-not_failed : {E : Type 0} (result : Result Reading E) (bytes iri : List ℕ)
    → IfOk result (λ reading. reading ≡ object_read (graph_in bytes) iri) → result ≡ Ok (Bad ReadFault) → ⊥
read_object-not_failed result bytes iri read e =
    object-not_failed (graph_in bytes) iri (graph-not_failed bytes)
    (sym (IfOk-at_ok (λ reading. reading ≡ object_read (graph_in bytes) iri) e read))

-- Nor is a catalogue's.
pub read_catalogue-not_failed : {E : Type 0} (result : Result (Result Catalogue Cause) E) (bytes : List ℕ)
    → IfOk result (λ catalogue. catalogue ≡ catalogue_read (graph_in bytes)) → result ≡ Ok (Err ReadFault) → ⊥
read_catalogue-not_failed result bytes read e =
    catalogue-not_failed (graph_in bytes) (graph-not_failed bytes)
    (sym (IfOk-at_ok (λ catalogue. catalogue ≡ catalogue_read (graph_in bytes)) e read))

-- ---- what tells of a failed fetch

not_failed : (why : Cause) → (why ≡ ReadFault → ⊥) → is_read_fault why ≡ false
not_failed ReadFault never = absurd (never refl)
not_failed Missing never = refl
not_failed TooLong never = refl
not_failed (NotNTriples line) never = refl
not_failed NoCatalog never = refl
not_failed NotDescribed never = refl
not_failed NoTitle never = refl
not_failed SameName never = refl

catalogue-tells : (read : Result Catalogue Cause) → (read ≡ Err ReadFault → ⊥) → has_failed_catalogue read ≡ false
catalogue-tells (Ok catalogue) never = refl
catalogue-tells (Err why) never = not_failed why (λ e. never (ap Err e))

object-tells : (read : Reading) → (read ≡ Bad ReadFault → ⊥) → has_failed_object read ≡ false
object-tells (Good r) never = refl
object-tells (Bad why) never = not_failed why (λ e. never (ap Bad e))

within-not_failed : (bytes : List ℕ) (long : Bool)
    → graph_within (cond long (Err TooLong) (Ok bytes)) ≡ Err ReadFault → ⊥
within-not_failed bytes true h = cc
within-not_failed bytes false h = graph-not_failed bytes h

found-not_failed : (found : Option (List ℕ)) → graph_within (bytes_within found) ≡ Err ReadFault → ⊥
found-not_failed None h = cc
found-not_failed (Some bytes) h = within-not_failed bytes (ltb max_document (length bytes)) h

pub failed-catalogue : (documents : Documents) (failed : Bool) (url : List ℕ)
    → has_failed_catalogue (catalogue_at documents failed url) ≡ failed
failed-catalogue documents true url = refl
failed-catalogue documents false url =
    catalogue-tells (catalogue_at documents false url)
    (catalogue-not_failed (graph_at documents false url) (found-not_failed (documents url)))

pub failed-object : (documents : Documents) (failed : Bool) (iri : List ℕ)
    → has_failed_object (object_at documents failed iri) ≡ failed
failed-object documents true iri = refl
failed-object documents false iri =
    object-tells (object_at documents false iri)
    (object-not_failed (graph_at documents false iri) iri (found-not_failed (documents iri)))
