use Rattle.std.proofs.Common.{◌≡◌, drop}
use Rattle.datastore_answers.specs.Consistent.{own_resolved}
use Rattle.datastore_answers.proofs.restored.own_resolved.Given as goal

abbrev pub invariant-loop-at : goal.invariant-loop-at
invariant-loop-at l =
    own_resolved l.own l.foreigns l.numbers ≡ own_resolved l.own (drop l.at l.foreigns) (drop l.at l.numbers)
