use Rattle.std.proofs.Common.{rules}
use Rattle.std.specs.Ordering.{is_lt}
use Rattle.std.proofs.lemmas.Fn.{always_returns_same}
use Rattle.datastore_answers.specs.Order.{table_cmp, table_cmp_total}
use Rattle.datastore_answers.proofs.RestoredLemmas.{adjacent-ascends}
use Rattle.datastore_answers.proofs.restored.ascends.Goals as goal

pub returns : goal.returns
returns c =
    adjacent-ascends table_cmp table_cmp_total c.args.tables.now c.is_sorted_by.result
    (c.is_sorted_by.ensures.cases (λ t u. is_lt (table_cmp t u))
    (always_returns_same _ _ _ (λ a r f called. search rules)))
