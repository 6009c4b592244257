use Rattle.table_schema.proofs.TextLemmas.{time_where_of_form}
use Rattle.table_schema.proofs.laws.a_text_reads_as_a_time_exactly_where_it_is_one.Goals as goal

pub returns : goal.returns
returns c = time_where_of_form
