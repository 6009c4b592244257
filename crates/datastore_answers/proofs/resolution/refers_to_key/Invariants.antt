use Rattle.std.proofs.Common.{◌≡◌, drop}
use Rattle.datastore_answers.specs.Resolution.{refers_to_key}
use Rattle.datastore_answers.proofs.resolution.refers_to_key.Given as goal

abbrev pub invariant-loop-at : goal.invariant-loop-at
invariant-loop-at l = refers_to_key l.fields l.others l.indices l.key l.target
    ≡ refers_to_key l.fields l.others (drop l.at l.indices) (drop l.at l.key) (drop l.at l.target)
