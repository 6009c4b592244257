use Rattle.std.proofs.Common.{◌≡◌, ◌++◌, drop}
use Rattle.datastore_query.specs.Column.{all_columns, field_columns_from}
use Rattle.datastore_query.proofs.column.all_columns.Given as goal

abbrev pub invariant-loop-index : goal.invariant-loop-index
invariant-loop-index l = all_columns l.fields ≡ l.columns.items ++ field_columns_from l.index (drop l.index l.fields)
