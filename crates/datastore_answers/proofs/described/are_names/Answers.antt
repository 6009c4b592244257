use Rattle.std.proofs.Common.{sym, arith}
use Rattle.std.proofs.lemmas.Bool.{false_from_ne_true}
use Rattle.datastore_answers.proofs.LengthLemmas.{are_names-length}
use Rattle.datastore_answers.proofs.described.are_names.Goals as goal

pub returns-then-indices-names : goal.returns-then-indices-names
returns-then-indices-names c = sym (false_from_ne_true _ (λ h.
    let same = are_names-length c.args.fields.now c.args.indices.now c.args.names.now h in omega arith))
