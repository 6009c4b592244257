use Rattle.ntriples.proofs.DocumentForms.{written_reads_back}
use Rattle.ntriples.proofs.laws.what_is_written_reads_back.Goals as goal

pub returns : goal.returns
returns c = written_reads_back
