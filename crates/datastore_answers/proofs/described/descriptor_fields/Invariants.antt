use Rattle.std.proofs.Common.{◌≡◌, take, map}
use Rattle.datastore_answers.specs.Described.{descriptor_field}
use Rattle.datastore_answers.proofs.described.descriptor_fields.Given as goal

abbrev pub invariant-loop-item : goal.invariant-loop-item
invariant-loop-item l = l.list.items ≡ map descriptor_field (take l.item-index l.items)
