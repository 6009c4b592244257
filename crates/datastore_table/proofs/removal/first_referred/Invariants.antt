use Rattle.std.proofs.Common.{◌≡◌, ◌&&◌, not, find, take}
use Rattle.std.specs.List.{list_any}
use Rattle.datastore_table.specs.Batch.{is_among, refers_to}
use Rattle.datastore_table.specs.Put.{id_of}
use Rattle.datastore_table.proofs.removal.first_referred.Given as goal

abbrev pub invariant-loop-row : goal.invariant-loop-row
invariant-loop-row l =
    l.first
    ≡ id_of (find (λ key. list_any (λ row. not (is_among l.ids row.id) && refers_to l.columns key row)
    (take l.row-index l.rows)) l.keys)
