use Rattle.std.proofs.Common.{◌∙◌, ap}
use Rattle.dcat_map.specs.Records.{description_of}
use Rattle.harvest_readings.specs.Catalogues.{object_read}
use Rattle.harvest_readings.specs.Documents.{graphed}
use Rattle.harvest_readings.proofs.HarvestLemmas.{graph_at-within}
use Rattle.harvest_readings.proofs.laws.a_dataset_is_read_by_the_triples_at_its_iri.Goals as goal

pub returns-clause-triples : goal.returns-clause-triples
unfolding description_of
returns-clause-triples c = λ documents iri bytes triples there within document.
    ap (λ g. object_read g iri)
    (graph_at-within documents iri bytes there within
    ∙ ap graphed ((c.a_document_is_read_by_the_grammar.ensures.document bytes triples).1 document))

pub returns-clause-graph : goal.returns-clause-graph
returns-clause-graph c = λ documents failed iri cause none. ap (λ g. object_read g iri) none
