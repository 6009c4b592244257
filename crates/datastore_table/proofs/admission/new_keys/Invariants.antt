use Rattle.std.proofs.Common.{◌≡◌, take}
use Rattle.datastore_table.specs.Put.{new_keys}
use Rattle.datastore_table.proofs.admission.new_keys.Given as goal

abbrev pub invariant-loop-given : goal.invariant-loop-given
invariant-loop-given l = l.keys ≡ new_keys l.schema l.rows (take l.given-index l.records)
