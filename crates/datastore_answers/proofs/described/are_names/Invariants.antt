use Rattle.std.proofs.Common.{◌≡◌, drop}
use Rattle.datastore_answers.specs.Described.{are_names}
use Rattle.datastore_answers.proofs.described.are_names.Given as goal

abbrev pub invariant-loop-at : goal.invariant-loop-at
invariant-loop-at l = are_names l.fields l.indices l.names
    ≡ are_names l.fields (drop l.at l.indices) (drop l.at l.names)
