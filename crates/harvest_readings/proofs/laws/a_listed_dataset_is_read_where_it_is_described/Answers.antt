use Rattle.std.proofs.Common.{◌∙◌, true, false}
use Rattle.dcat_map.specs.Records.{description_of}
use Rattle.harvest_readings.proofs.HarvestLemmas.{reading_of_item, reads_listing}
use Rattle.harvest_readings.proofs.laws.a_listed_dataset_is_read_where_it_is_described.Goals as goal

pub returns-clause-here : goal.returns-clause-here
unfolding description_of
returns-clause-here c = λ source documents has_failed triples items unnamed item is listed described.
    let parsed = (c.a_document_is_read_by_the_grammar.ensures.document is.bytes triples).1 is.document in
    let r = reads_listing source documents has_failed triples items unnamed is.bytes is.there parsed is.read in
    reading_of_item documents has_failed triples items unnamed item true r listed
    (c.a_described_iri_is_of_the_set.ensures.graph triples item.iri ∙ described)

pub returns-clause-elsewhere : goal.returns-clause-elsewhere
returns-clause-elsewhere c = λ source documents has_failed triples items unnamed item is listed described.
    let parsed = (c.a_document_is_read_by_the_grammar.ensures.document is.bytes triples).1 is.document in
    let r = reads_listing source documents has_failed triples items unnamed is.bytes is.there parsed is.read in
    reading_of_item documents has_failed triples items unnamed item false r listed
    (c.a_described_iri_is_of_the_set.ensures.graph triples item.iri ∙ described)
