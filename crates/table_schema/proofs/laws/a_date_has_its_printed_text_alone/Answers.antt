use Rattle.table_schema.proofs.PrintedTextLemmas.{date_where_printed}
use Rattle.table_schema.proofs.laws.a_date_has_its_printed_text_alone.Goals as goal

pub returns : goal.returns
returns c = date_where_printed
