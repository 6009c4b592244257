use Rattle.ntriples.proofs.DocumentLemmas.{all_readable}
use Rattle.ntriples.proofs.DocumentForms.{read_document, read_fault, documents_are_read, bad_lines_are_reported}
use Rattle.ntriples.proofs.document.read.Goals as goal

pub returns-clause-triples : goal.returns-clause-triples
returns-clause-triples c = read_document c.args.bytes.now c.read_lines.result c.read_lines.ensures.triples

pub returns-clause-fault : goal.returns-clause-fault
returns-clause-fault c = read_fault c.args.bytes.now c.read_lines.result c.read_lines.ensures.fault

pub returns-clause-documents : goal.returns-clause-documents
returns-clause-documents c = documents_are_read c.args.bytes.now c.read_lines.result c.read_lines.ensures.triples
    c.read_lines.ensures.fault

pub returns-clause-bad : goal.returns-clause-bad
returns-clause-bad c = bad_lines_are_reported c.args.bytes.now c.read_lines.result c.read_lines.ensures.triples
    c.read_lines.ensures.fault

pub returns-clause-readable : goal.returns-clause-readable
returns-clause-readable c = all_readable c.args.bytes.now c.read_lines.result c.read_lines.ensures.triples
