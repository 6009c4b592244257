use Rattle.harvest_rows.proofs.SourceLemmas.{one_source}
use Rattle.harvest_rows.proofs.laws.a_row_is_of_one_source.Goals as goal

pub returns : goal.returns
returns c = one_source
