use Rattle.portal_keeper.proofs.RowLemmas.{same_rows}
use Rattle.portal_keeper.proofs.laws.rows_are_known_by_their_bodies.Goals as goal

pub returns : goal.returns
returns c = same_rows
