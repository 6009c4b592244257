use Rattle.ntriples.proofs.DocumentForms.{either}
use Rattle.ntriples.proofs.laws.bytes_are_a_document_or_have_a_bad_line.Goals as goal

pub returns : goal.returns
returns c = either
