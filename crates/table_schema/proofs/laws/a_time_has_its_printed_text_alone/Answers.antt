use Rattle.table_schema.proofs.PrintedTextLemmas.{time_where_printed}
use Rattle.table_schema.proofs.laws.a_time_has_its_printed_text_alone.Goals as goal

pub returns : goal.returns
returns c = time_where_printed
