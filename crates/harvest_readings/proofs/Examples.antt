-- Worked examples, by computation: a source `aa` whose catalogue is at `a.nt` and lists `<abc>`.
use Rattle.std.proofs.Common.{◌≡◌, ℕ, true, false, List, [], ◌∷◌, ◌++◌, Some, None, Ok, Err, pos, refl}
use Rattle.std.specs.Prelude.{codes, if◌then◌else◌}
use Rattle.std.specs.Char.{encode_utf8}
use Rattle.std.specs.Str.{bytes_eq, is_utf8, chars}
use Rattle.ntriples.specs.Characters.{is_pn_chars_base, is_pn_chars_u, is_pn_chars, is_iri_character}
use Rattle.ntriples.specs.Document.{lines}
use Rattle.ntriples.specs.Parsing.{blank_node_label, iriref, label_rest, line, literal, literal_suffix, object}
use Rattle.ntriples.specs.Parsing.{object_end, predicate_object, quoted_character, quoted_from, subject, triple}
use Rattle.ntriples.specs.Parsing.{triple_alone}
use Rattle.ntriples.specs.ParsedLines.{line_of}
use Rattle.ntriples.specs.Reading.{skip_blanks}
use Rattle.harvest_records.specs.declared.record.HarvestRecord.{HarvestRecord}
use Rattle.dcat_map.specs.Distributions.{distributions_in, resources_in}
use Rattle.dcat_map.specs.Graphs.{graph_of, is_about, is_described}
use Rattle.dcat_map.specs.Instants.{latest}
use Rattle.dcat_map.specs.Listings.{catalogued, catalogues_in, entries_in, links_in, listing_in}
use Rattle.dcat_map.specs.Picks.{least_named, pick, picked}
use Rattle.dcat_map.specs.Records.{description_in, record_in}
use Rattle.dcat_map.specs.Sets.{ascending_set, in_order, least}
use Rattle.dcat_map.specs.Tags.{tags_among}
use Rattle.dcat_map.specs.Terms.{term_cmp, triple_cmp}
use Rattle.harvest_results.specs.Readings.CatalogueReading.{Broken, Listed}
use Rattle.harvest_sources.specs.declared.cause.Cause.TheVariants.{ReadFault, Missing, NotNTriples, NoCatalog, NoTitle}
use Rattle.harvest_sources.specs.declared.reading.Reading.TheVariants.{Good, Bad}
use Rattle.harvest_sources.specs.declared.source.HarvestSource.{HarvestSource}
use Rattle.harvest_sources.specs.declared.step.Found.TheVariants.{Here}
use Rattle.harvest_readings.specs.Catalogues.{catalogue_read}
use Rattle.harvest_readings.specs.Documents.{graph_in, triples_in}
use Rattle.harvest_readings.specs.Harvests.{Documents, catalogue_reading}

abbrev aa : HarvestSource
aa = record {
  name = codes "aa";
  title = codes "Air";
  url = codes "a.nt";
  owner_org = codes "city";
  next_job = 1;
}

-- a catalogue that lists `<abc>`, in two lines
abbrev listing : List ℕ
listing =
    codes "_:c <http://www.w3.org/1999/02/22-rdf-syntax-ns#type> <http://www.w3.org/ns/dcat#Catalog> .\n"
    ++ codes "_:c <http://www.w3.org/ns/dcat#dataset> <abc> .\n"

-- `<abc>` is a dataset
abbrev dataset : List ℕ
dataset = codes "<abc> <http://www.w3.org/1999/02/22-rdf-syntax-ns#type> <http://www.w3.org/ns/dcat#Dataset> .\n"

abbrev title : List ℕ
title = codes "<abc> <http://purl.org/dc/terms/title> \"A\" .\n"

-- the record of `<abc>`
abbrev titled : HarvestRecord
titled = record { title = codes "A"; notes = []; tags = []; modified = pos 0; license_id = []; resources = [] }

-- no document at all, and those at `a.nt` and at `abc`
abbrev nowhere : Documents
nowhere location = None

abbrev at_both : List ℕ → List ℕ → Documents
at_both catalogue own location =
    if bytes_eq location (codes "a.nt") then Some catalogue else
    if bytes_eq location (codes "abc") then Some own else None

second_line_is_bad : triples_in (codes "<a> <b> <c> .\n<a>\n<a> <b> .\n") ≡ Err (NotNTriples 2)
unfolding triples_in lines line_of is_utf8 chars encode_utf8 skip_blanks is_iri_character quoted_character quoted_from
    iriref literal subject object object_end predicate_object triple triple_alone line
second_line_is_bad = refl

no_document : catalogue_reading aa nowhere false (λ iri. false) ≡ Broken Missing
no_document = refl

no_fetch : catalogue_reading aa (at_both listing dataset) true (λ iri. false) ≡ Broken ReadFault
no_fetch = refl

empty_document : catalogue_reading aa (at_both [] dataset) false (λ iri. false) ≡ Broken NoCatalog
unfolding triples_in lines line_of is_utf8 chars skip_blanks line graph_of ascending_set catalogued catalogues_in
empty_document = refl

described_in_the_catalogue : catalogue_read (graph_in (listing ++ dataset ++ title))
    ≡ Ok (record { items = record { iri = codes "abc"; found = Here (Good titled) } ∷ []; unnamed = 0 })
unfolding triples_in lines line_of is_utf8 chars encode_utf8 skip_blanks is_iri_character is_pn_chars_base
    is_pn_chars_u is_pn_chars quoted_character quoted_from iriref label_rest blank_node_label literal_suffix literal
    subject object object_end predicate_object triple triple_alone line graph_of ascending_set is_about term_cmp
    triple_cmp catalogued catalogues_in entries_in links_in listing_in is_described description_in record_in least
    least_named pick picked latest tags_among in_order distributions_in resources_in
described_in_the_catalogue = refl

described_elsewhere : catalogue_reading aa (at_both listing (dataset ++ title)) false (λ iri. false)
    ≡ Listed aa (record { iri = codes "abc"; reading = Good titled } ∷ []) 0
unfolding triples_in lines line_of is_utf8 chars encode_utf8 skip_blanks is_iri_character is_pn_chars_base
    is_pn_chars_u is_pn_chars quoted_character quoted_from iriref label_rest blank_node_label literal_suffix literal
    subject object object_end predicate_object triple triple_alone line graph_of ascending_set is_about term_cmp
    triple_cmp catalogued catalogues_in entries_in links_in listing_in is_described description_in record_in least
    least_named pick picked latest tags_among in_order distributions_in resources_in
described_elsewhere = refl

described_without_a_title : catalogue_reading aa (at_both listing dataset) false (λ iri. false)
    ≡ Listed aa (record { iri = codes "abc"; reading = Bad NoTitle } ∷ []) 0
unfolding triples_in lines line_of is_utf8 chars encode_utf8 skip_blanks is_iri_character is_pn_chars_base
    is_pn_chars_u is_pn_chars quoted_character quoted_from iriref label_rest blank_node_label literal_suffix literal
    subject object object_end predicate_object triple triple_alone line graph_of ascending_set is_about term_cmp
    triple_cmp catalogued catalogues_in entries_in links_in listing_in is_described description_in record_in least
    least_named pick picked latest tags_among in_order distributions_in resources_in
described_without_a_title = refl
