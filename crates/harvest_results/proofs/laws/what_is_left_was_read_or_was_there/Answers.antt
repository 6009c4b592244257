use Rattle.harvest_results.proofs.ResultLemmas.{after-origin}
use Rattle.harvest_results.proofs.laws.what_is_left_was_read_or_was_there.Goals as goal

pub returns : goal.returns
returns c = after-origin
