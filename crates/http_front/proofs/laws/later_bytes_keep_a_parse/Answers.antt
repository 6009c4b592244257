use Rattle.http_front.proofs.HeadLemmas.{complete_kept, overflows_on}
use Rattle.http_front.proofs.laws.later_bytes_keep_a_parse.Goals as goal

pub returns-clause-complete : goal.returns-clause-complete
returns-clause-complete c = complete_kept

pub returns-clause-invalid : goal.returns-clause-invalid
returns-clause-invalid c = overflows_on
