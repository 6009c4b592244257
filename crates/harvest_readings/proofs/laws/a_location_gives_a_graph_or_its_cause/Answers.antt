use Rattle.std.proofs.Common.{◌∙◌, ap}
use Rattle.harvest_readings.specs.Documents.{graphed}
use Rattle.harvest_readings.proofs.HarvestLemmas.{graph_at-long, graph_at-missing, graph_at-within}
use Rattle.harvest_readings.proofs.laws.a_location_gives_a_graph_or_its_cause.Goals as goal

pub returns-clause-missing : goal.returns-clause-missing
returns-clause-missing c = graph_at-missing

pub returns-clause-long : goal.returns-clause-long
returns-clause-long c = graph_at-long

pub returns-clause-bad : goal.returns-clause-bad
returns-clause-bad c = λ documents location bytes number there within bad.
    graph_at-within documents location bytes there within
    ∙ ap graphed ((c.a_document_is_read_by_the_grammar.ensures.bad bytes number).1 bad)

pub returns-clause-graph : goal.returns-clause-graph
returns-clause-graph c = λ documents location bytes triples there within document.
    graph_at-within documents location bytes there within
    ∙ ap graphed ((c.a_document_is_read_by_the_grammar.ensures.document bytes triples).1 document)
