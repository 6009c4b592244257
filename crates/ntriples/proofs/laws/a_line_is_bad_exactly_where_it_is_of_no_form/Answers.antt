use Rattle.ntriples.proofs.DocumentForms.{bad_where_of_no_form}
use Rattle.ntriples.proofs.laws.a_line_is_bad_exactly_where_it_is_of_no_form.Goals as goal

pub returns : goal.returns
returns c = bad_where_of_no_form
