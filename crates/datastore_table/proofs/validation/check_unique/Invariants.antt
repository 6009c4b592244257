use Rattle.std.proofs.Common.{◌≡◌, drop}
use Rattle.datastore_table.specs.Put.{unique_fault}
use Rattle.datastore_table.specs.Results.{in_turn}
use Rattle.datastore_table.specs.Rows.{rows_after}
use Rattle.datastore_table.proofs.validation.check_unique.Given as goal

abbrev pub invariant-loop-column : goal.invariant-loop-column
invariant-loop-column l =
    in_turn (unique_fault l.number l.except l.cells (rows_after l.current.written l.current.rows)) 0
    l.schema.fields tt
    ≡ in_turn (unique_fault l.number l.except l.cells (rows_after l.current.written l.current.rows)) l.column
    (drop l.column l.schema.fields) tt
