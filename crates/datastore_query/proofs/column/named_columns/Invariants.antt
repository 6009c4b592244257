use Rattle.std.proofs.Common.{◌≡◌, drop}
use Rattle.datastore_query.specs.Column.{column_reading, named_columns}
use Rattle.datastore_query.proofs.ResultLemmas.{read_on}
use Rattle.datastore_query.proofs.column.named_columns.Given as goal

abbrev pub invariant-loop-name : goal.invariant-loop-name
invariant-loop-name l =
    named_columns l.fields l.names
    ≡ read_on (column_reading l.fields) l.columns.items (drop l.name-index l.names)
