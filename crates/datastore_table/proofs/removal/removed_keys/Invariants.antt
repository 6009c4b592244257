use Rattle.std.proofs.Common.{◌≡◌, take}
use Rattle.datastore_table.specs.Batch.{removed_keys}
use Rattle.datastore_table.proofs.removal.removed_keys.Given as goal

abbrev pub invariant-loop-row : goal.invariant-loop-row
invariant-loop-row l = l.keys.items ≡ removed_keys l.key l.ids (take l.row-index l.rows)
