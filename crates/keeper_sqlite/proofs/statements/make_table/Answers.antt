use Rattle.keeper_sqlite.specs.Statements.{make_text}
use Rattle.keeper_sqlite.proofs.statements.make_table.Goals as goal

pub returns-clause-runs : goal.returns-clause-runs
unfolding make_text
returns-clause-runs g c clean inside = c.execute.ensures.runs clean inside
