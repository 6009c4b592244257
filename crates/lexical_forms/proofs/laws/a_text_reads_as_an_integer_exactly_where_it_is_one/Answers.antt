use Rattle.lexical_forms.proofs.FieldFormLemmas.{integer_where_one}
use Rattle.lexical_forms.proofs.laws.a_text_reads_as_an_integer_exactly_where_it_is_one.Goals as goal

pub returns : goal.returns
returns c = integer_where_one
