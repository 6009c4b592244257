use Rattle.ntriples.proofs.DocumentForms.{no_bad_line}
use Rattle.ntriples.proofs.laws.a_document_has_no_bad_line.Goals as goal

pub returns : goal.returns
returns c = no_bad_line
