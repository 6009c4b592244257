use Rattle.harvest_readings.proofs.DocumentLemmas.{reads_document, reads_bad}
use Rattle.harvest_readings.proofs.laws.a_document_is_read_by_the_grammar.Goals as goal

pub returns-clause-document : goal.returns-clause-document
returns-clause-document c =
    reads_document c.a_line_has_a_triple_exactly_where_it_is_of_the_form.ensures
    c.a_line_is_bad_exactly_where_it_is_of_no_form.ensures c.bytes_are_a_document_or_have_a_bad_line.ensures

pub returns-clause-bad : goal.returns-clause-bad
returns-clause-bad c =
    reads_bad c.a_line_has_a_triple_exactly_where_it_is_of_the_form.ensures
    c.a_line_is_bad_exactly_where_it_is_of_no_form.ensures c.bytes_are_a_document_or_have_a_bad_line.ensures
