use Rattle.std.proofs.Common.{rules, sym, subst}
use Rattle.std.specs.Cmp.{IsTotalOrder}
use Rattle.std.specs.List.Sorted.{IsSorted}
use Rattle.std.specs.Ordering.{is_lt}
use Rattle.std.proofs.lemmas.Cmp.{nat_list_cmp_total, on_total}
use Rattle.std.proofs.lemmas.List.Sorted.{answers_always, ranks_by}
use Rattle.harvest_pool.specs.Rounds.{report_cmp}
use Rattle.harvest_pool.proofs.rounds.report_in_order.Goals as goal

report_cmp_total : IsTotalOrder report_cmp
report_cmp_total = on_total (λ r. r.source) nat_list_cmp_total

pub returns-clause-order : goal.returns-clause-order
returns-clause-order c =
    subst (IsSorted report_cmp) (sym c.from.ensures)
    (c.in_ok-sort_by.ensures.sorted (λ x y. is_lt (report_cmp x y)) (ranks_by report_cmp_total (λ x. x))
    (answers_always _ _ _ (λ f a r q called. search rules)))
