use Rattle.std.proofs.Common.{◌≡◌, drop}
use Rattle.datastore_table.specs.Batch.{cut_rows, self_reference_restricted}
use Rattle.datastore_table.specs.Results.{in_turn}
use Rattle.datastore_table.proofs.removal.restrict_self_references.Given as goal

abbrev pub invariant-loop-foreign : goal.invariant-loop-foreign
invariant-loop-foreign l =
    in_turn (self_reference_restricted l.keys (cut_rows l.ids l.rows)) 0 l.foreigns tt
    ≡ in_turn (self_reference_restricted l.keys (cut_rows l.ids l.rows)) l.foreign-index
    (drop l.foreign-index l.foreigns) tt
