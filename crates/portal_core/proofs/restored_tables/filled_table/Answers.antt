use Rattle.datastore_table.specs.Meets.{rows_of}
use Rattle.portal_core.proofs.RestoredTable.{unfilled}
use Rattle.portal_core.proofs.restored_tables.filled_table.Goals as goal

pub returns-clause-none : goal.returns-clause-none
returns-clause-none c =
    unfilled c.restore.result c.args.schema (rows_of c.in_ok-pairs.pairs) c.args.rows c.args.next_id
    c.in_ok-pairs.ensures c.restore.ensures.exactly
