use Rattle.std.proofs.Common.{◌≡◌, subst, sym, true}
use Rattle.portal_base.specs.Ordered.{IsAscending}
use Rattle.datastore_answers.specs.Order.{table_cmp, table_cmp_total}
use Rattle.datastore_answers.proofs.RestoredLemmas.{sorted-apart, sorted-equal}
use Rattle.datastore_answers.proofs.restored.in_order.Goals as goal

pub returns-then-ascends-clause-exactly : goal.returns-then-ascends-clause-exactly
returns-then-ascends-clause-exactly c =
    sym (sorted-apart table_cmp table_cmp_total c.args.tables c.sorted-tables.result.items
    c.sorted-tables.ensures.permutation c.sorted-tables.ensures.sorted
    (subst (IsAscending table_cmp) c.as_slice.ensures.value (c.ascends.ensures.0 c.if-ascends.true))).0

pub returns-then-ascends-clause-tables : goal.returns-then-ascends-clause-tables
returns-then-ascends-clause-tables c =
    (sorted-apart table_cmp table_cmp_total c.args.tables c.sorted-tables.result.items
    c.sorted-tables.ensures.permutation c.sorted-tables.ensures.sorted
    (subst (IsAscending table_cmp) c.as_slice.ensures.value (c.ascends.ensures.0 c.if-ascends.true))).1

pub returns-else-ascends-clause-exactly : goal.returns-else-ascends-clause-exactly
returns-else-ascends-clause-exactly c =
    sym (sorted-equal table_cmp table_cmp_total c.args.tables c.sorted-tables.result.items
    c.sorted-tables.ensures.permutation c.sorted-tables.ensures.sorted
    (λ up.
    let yes : c.ascends.result ≡ true =
    c.ascends.ensures.1 (subst (IsAscending table_cmp) (sym c.as_slice.ensures.value) up) in
    cc (yes, c.if-ascends.false)))
