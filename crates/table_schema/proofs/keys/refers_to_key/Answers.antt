use Rattle.std.proofs.Common.{sym, arith}
use Rattle.std.proofs.lemmas.Bool.{false_from_ne_true}
use Rattle.table_schema.proofs.KeyLemmas.{refers_to_key-lengths}
use Rattle.table_schema.proofs.keys.refers_to_key.Goals as goal
use Rattle.table_schema.proofs.keys.refers_to_key.Goals.{then-fields-key-via-then-fields-key}
use Rattle.table_schema.proofs.keys.refers_to_key.Goals.{then-fields-key-via-else-fields-key+then-key-target}

pub returns-then-fields-key : goal.returns-then-fields-key
returns-then-fields-key c = sym (false_from_ne_true _ (λ h.
    let lengths = refers_to_key-lengths c.args.columns.now c.args.fields.now c.args.key.now c.args.target.now h in
    elim c.then-fields-key.branch [
      | then-fields-key-via-then-fields-key w ↦ omega arith
      | then-fields-key-via-else-fields-key+then-key-target w ↦ omega arith
    ]))
