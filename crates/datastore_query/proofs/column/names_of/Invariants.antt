use Rattle.std.proofs.Common.{◌≡◌, map, take}
use Rattle.datastore_query.specs.Column.{column_name}
use Rattle.datastore_query.proofs.column.names_of.Given as goal

abbrev pub invariant-loop-column : goal.invariant-loop-column
invariant-loop-column l = l.names.items ≡ map (column_name l.fields) (take l.column-index l.columns)
