use Rattle.ntriples.proofs.DocumentForms.{a_triple_where_of_form}
use Rattle.ntriples.proofs.laws.a_line_has_a_triple_exactly_where_it_is_of_the_form.Goals as goal

pub returns : goal.returns
returns c = a_triple_where_of_form
