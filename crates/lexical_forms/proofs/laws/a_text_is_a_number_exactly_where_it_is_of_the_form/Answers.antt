use Rattle.lexical_forms.proofs.NumberFormLemmas.{number_where_of_form}
use Rattle.lexical_forms.proofs.laws.a_text_is_a_number_exactly_where_it_is_of_the_form.Goals as goal

pub returns : goal.returns
returns c = number_where_of_form
