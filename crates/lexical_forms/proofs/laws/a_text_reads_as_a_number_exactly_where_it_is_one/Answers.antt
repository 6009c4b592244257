use Rattle.lexical_forms.proofs.FieldFormLemmas.{number_where_one}
use Rattle.lexical_forms.proofs.laws.a_text_reads_as_a_number_exactly_where_it_is_one.Goals as goal

pub returns : goal.returns
returns c = number_where_one
