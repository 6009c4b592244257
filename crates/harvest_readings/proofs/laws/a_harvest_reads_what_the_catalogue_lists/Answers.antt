use Rattle.std.proofs.Common.{◌↔◌, ◌∙◌, List, ℕ, sym, subst}
use Rattle.std.specs.List.{Contains}
use Rattle.std.specs.List.Sorted.{IsStrictlySortedBy}
use Rattle.dcat_map.specs.Listings.{IsListed}
use Rattle.dcat_map.specs.Terms.{text_cmp}
use Rattle.harvest_readings.proofs.HarvestLemmas.{iris_of_reading, reads_listing}
use Rattle.harvest_readings.proofs.laws.a_harvest_reads_what_the_catalogue_lists.Goals as goal

pub returns-clause-listed : goal.returns-clause-listed
returns-clause-listed c = λ source documents has_failed triples items unnamed iri is.
    let parsed = (c.a_document_is_read_by_the_grammar.ensures.document is.bytes triples).1 is.document in
    let r = reads_listing source documents has_failed triples items unnamed is.bytes is.there parsed is.read in
    subst (λ (iris : List (List ℕ)). Contains iris iri ↔ IsListed triples iri)
    (sym (iris_of_reading documents has_failed triples items unnamed r))
    (c.a_listing_has_what_catalogues_list.ensures.listed triples r.listing iri r.listed)

pub returns-clause-ascending : goal.returns-clause-ascending
returns-clause-ascending c = λ source documents has_failed triples items unnamed is.
    let parsed = (c.a_document_is_read_by_the_grammar.ensures.document is.bytes triples).1 is.document in
    let r = reads_listing source documents has_failed triples items unnamed is.bytes is.there parsed is.read in
    subst (IsStrictlySortedBy text_cmp) (sym (iris_of_reading documents has_failed triples items unnamed r))
    (c.a_listing_has_what_catalogues_list.ensures.ascending triples r.listing r.listed)

pub returns-clause-unnamed : goal.returns-clause-unnamed
returns-clause-unnamed c = λ source documents has_failed triples items unnamed is.
    let parsed = (c.a_document_is_read_by_the_grammar.ensures.document is.bytes triples).1 is.document in
    let r = reads_listing source documents has_failed triples items unnamed is.bytes is.there parsed is.read in
    let counted = c.a_listing_counts_what_has_no_name.ensures.unnamed triples r.listing r.listed in
    (counted.0, counted.1, r.counted ∙ counted.2)
