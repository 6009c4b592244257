use Rattle.ntriples.proofs.DocumentForms.{one_reading}
use Rattle.ntriples.proofs.laws.a_document_has_one_reading.Goals as goal

pub returns : goal.returns
returns c = one_reading
