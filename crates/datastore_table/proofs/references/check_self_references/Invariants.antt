use Rattle.std.proofs.Common.{◌≡◌, drop}
use Rattle.datastore_table.specs.References.{self_reference_checked}
use Rattle.datastore_table.specs.Results.{in_turn}
use Rattle.datastore_table.specs.Rows.{rows_after}
use Rattle.datastore_table.proofs.references.check_self_references.Given as goal

abbrev pub invariant-loop-foreign : goal.invariant-loop-foreign
invariant-loop-foreign l =
    in_turn (self_reference_checked l.key (rows_after l.current.written l.current.rows) l.written) 0 l.foreign-items
    tt
    ≡ in_turn (self_reference_checked l.key (rows_after l.current.written l.current.rows) l.written) l.foreign-index
    (drop l.foreign-index l.foreign-items) tt
