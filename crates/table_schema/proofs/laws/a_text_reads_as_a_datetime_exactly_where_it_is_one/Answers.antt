use Rattle.table_schema.proofs.TextLemmas.{stamp_where_of_form}
use Rattle.table_schema.proofs.laws.a_text_reads_as_a_datetime_exactly_where_it_is_one.Goals as goal

pub returns : goal.returns
returns c = stamp_where_of_form
