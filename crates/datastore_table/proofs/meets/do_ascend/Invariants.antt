use Rattle.std.proofs.Common.{◌≡◌, drop}
use Rattle.datastore_table.specs.Meets.{ascend_from}
use Rattle.datastore_table.proofs.meets.do_ascend.Given as goal

abbrev pub invariant-loop-row : goal.invariant-loop-row
invariant-loop-row l = ascend_from 0 l.next_id l.rows ≡ ascend_from l.low l.next_id (drop l.row-index l.rows)
