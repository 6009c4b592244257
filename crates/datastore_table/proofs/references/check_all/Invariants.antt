use Rattle.std.proofs.Common.{◌≡◌, ◌+◌, drop}
use Rattle.datastore_table.specs.References.{foreign_checked, written_checked}
use Rattle.datastore_table.specs.Results.{in_turn}
use Rattle.datastore_table.specs.Rows.{rows_after}
use Rattle.datastore_table.proofs.references.check_all.Given as goal

abbrev pub invariant-loop-record_index : goal.invariant-loop-record_index
invariant-loop-record_index l =
    foreign_checked l.columns l.key (rows_after l.target.written l.target.rows) (rows_after l.changed l.rows)
    l.written
    ≡ in_turn (written_checked l.columns l.key (rows_after l.target.written l.target.rows)
    (rows_after l.changed l.rows)) (l.record_index + 1) (drop l.record_index l.written) tt
