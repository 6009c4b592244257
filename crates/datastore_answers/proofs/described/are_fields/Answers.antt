use Rattle.std.proofs.Common.{sym, arith}
use Rattle.std.proofs.lemmas.Bool.{false_from_ne_true}
use Rattle.datastore_answers.proofs.LengthLemmas.{are_fields-length}
use Rattle.datastore_answers.proofs.described.are_fields.Goals as goal

pub returns-then-fields-items : goal.returns-then-fields-items
returns-then-fields-items c = sym (false_from_ne_true _ (λ h.
    let same = are_fields-length c.args.fields.now c.args.items.now h in omega arith))
