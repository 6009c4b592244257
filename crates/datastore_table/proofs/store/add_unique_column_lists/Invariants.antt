use Rattle.std.proofs.Common.{◌≡◌, ◌++◌, drop}
use Rattle.datastore_table.specs.Index.{unique_column_lists}
use Rattle.datastore_table.proofs.store.add_unique_column_lists.Given as goal

abbrev pub invariant-loop-column : goal.invariant-loop-column
invariant-loop-column l =
    l.fn.column_lists.items ++ unique_column_lists 0 l.fields
    ≡ l.column_lists.items ++ unique_column_lists l.column (drop l.column l.fields)
