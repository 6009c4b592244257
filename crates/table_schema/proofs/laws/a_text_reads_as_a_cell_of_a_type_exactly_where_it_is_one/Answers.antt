use Rattle.table_schema.proofs.CellTextLemmas.{cell_where_of_form}
use Rattle.table_schema.proofs.laws.a_text_reads_as_a_cell_of_a_type_exactly_where_it_is_one.Goals as goal

pub returns : goal.returns
returns c = cell_where_of_form
