use Rattle.portal_keeper.proofs.RowLemmas.{body_at-rows_after}
use Rattle.portal_keeper.proofs.laws.the_last_change_of_a_key_decides.Goals as goal

pub returns : goal.returns
returns c = body_at-rows_after
