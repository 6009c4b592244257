use Rattle.std.proofs.Common.{◌≡◌, ◌++◌}
use Rattle.datastore_table.specs.Meets.{rows_of}
use Rattle.portal_core.proofs.restored_tables.pairs_of.Given as goal

abbrev pub invariant-loop-row : goal.invariant-loop-row
invariant-loop-row l = l.fn.rows ≡ rows_of l.pairs.items ++ l.row-iterator.rest.items
