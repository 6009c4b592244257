use Rattle.std.proofs.Common.{ap}
use Rattle.harvest_readings.specs.Catalogues.{catalogue_read}
use Rattle.harvest_readings.specs.Harvests.{reading_of}
use Rattle.harvest_readings.proofs.HarvestLemmas.{reads_no_catalogue}
use Rattle.harvest_readings.proofs.laws.a_catalogue_is_broken_by_its_cause.Goals as goal

pub returns-clause-graph : goal.returns-clause-graph
returns-clause-graph c = λ source documents failed has_failed cause none.
    ap (λ g. reading_of source documents has_failed (catalogue_read g)) none

pub returns-clause-catalogue : goal.returns-clause-catalogue
returns-clause-catalogue c = λ source documents has_failed bytes triples there within document none.
    reads_no_catalogue source documents has_failed triples bytes there within
    ((c.a_document_is_read_by_the_grammar.ensures.document bytes triples).1 document)
    ((c.a_listing_counts_what_has_no_name.ensures.none triples).1 none)
