use Rattle.std.proofs.Common.{sym, arith}
use Rattle.std.proofs.lemmas.Bool.{false_from_ne_true}
use Rattle.datastore_answers.proofs.LengthLemmas.{refers_to_key-lengths}
use Rattle.datastore_answers.proofs.resolution.refers_to_key.Goals as goal
use Rattle.datastore_answers.proofs.resolution.refers_to_key.Goals.{then-indices-key-via-then-indices-key}
use Rattle.datastore_answers.proofs.resolution.refers_to_key.Goals.{
  then-indices-key-via-else-indices-key+then-key-target,
}

pub returns-then-indices-key : goal.returns-then-indices-key
returns-then-indices-key c = sym (false_from_ne_true _ (λ h.
    let lengths = refers_to_key-lengths c.args.fields.now c.args.others.now c.args.indices.now c.args.key.now
    c.args.target.now h in
    elim c.then-indices-key.branch [
      | then-indices-key-via-then-indices-key w ↦ omega arith
      | then-indices-key-via-else-indices-key+then-key-target w ↦ omega arith
    ]))
