use Rattle.std.proofs.Common.{◌≡◌, drop}
use Rattle.datastore_answers.specs.Described.{are_fields}
use Rattle.datastore_answers.proofs.described.are_fields.Given as goal

abbrev pub invariant-loop-at : goal.invariant-loop-at
invariant-loop-at l = are_fields l.fields l.items ≡ are_fields (drop l.at l.fields) (drop l.at l.items)
