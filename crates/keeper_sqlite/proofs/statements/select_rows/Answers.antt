use Rattle.keeper_sqlite.specs.Statements.{select_text}
use Rattle.keeper_sqlite.proofs.statements.select_rows.Goals as goal

pub returns-clause-rows : goal.returns-clause-rows
unfolding select_text
returns-clause-rows g c clean = c.query_all.ensures.ok clean

pub returns-clause-refused : goal.returns-clause-refused
unfolding select_text
returns-clause-refused g c clean = c.query_all.ensures.err clean
