use Rattle.portal_keeper.proofs.RowLemmas.{rows_after-++}
use Rattle.portal_keeper.proofs.laws.changes_follow_one_another.Goals as goal

pub returns : goal.returns
returns c = rows_after-++
