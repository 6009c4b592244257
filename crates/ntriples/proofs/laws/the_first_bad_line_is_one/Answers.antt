use Rattle.ntriples.proofs.DocumentForms.{one_first}
use Rattle.ntriples.proofs.laws.the_first_bad_line_is_one.Goals as goal

pub returns : goal.returns
returns c = one_first
