use Rattle.keeper_sqlite.specs.Statements.{put_text}
use Rattle.keeper_sqlite.proofs.statements.put_row.Goals as goal

pub returns-clause-runs : goal.returns-clause-runs
unfolding put_text
returns-clause-runs g c clean inside =
    rw (
      c.params-to_sql.ensures,
      c.params-to_sql-2.ensures,
      c.params-to_sql-3.ensures,
      c.from-kind.ensures,
      c.number.ensures,
      c.as_str.ensures,
      c.as_str-2.ensures,
    ) at (c.execute.ensures.runs clean inside)
