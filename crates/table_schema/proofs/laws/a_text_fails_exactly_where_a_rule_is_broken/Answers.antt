use Rattle.table_schema.proofs.CellTextLemmas.{fails_where_of_form}
use Rattle.table_schema.proofs.laws.a_text_fails_exactly_where_a_rule_is_broken.Goals as goal

pub returns : goal.returns
returns c = fails_where_of_form
