use Rattle.table_schema.proofs.TextLemmas.{date_where_of_form}
use Rattle.table_schema.proofs.laws.a_text_reads_as_a_date_exactly_where_it_is_one.Goals as goal

pub returns : goal.returns
returns c = date_where_of_form
