use Rattle.table_schema.proofs.CellTextLemmas.{reads_where_of_form}
use Rattle.table_schema.proofs.laws.a_text_reads_as_a_cell_exactly_where_it_is_of_the_form.Goals as goal

pub returns : goal.returns
returns c = reads_where_of_form
