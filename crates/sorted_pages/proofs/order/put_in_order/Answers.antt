use Rattle.std.proofs.Common.{rules}
use Rattle.std.specs.Ordering.{is_lt}
use Rattle.std.proofs.lemmas.Fn.{always_returns_same}
use Rattle.std.proofs.lemmas.List.Sorted.{ranks_by}
use Rattle.sorted_pages.proofs.order.put_in_order.Goals as goal

pub returns-clause-sorted : goal.returns-clause-sorted
returns-clause-sorted g c =
    c.sort_unstable_by.ensures.sorted (λ x y. is_lt (g.O.Order.cmp c.args.order.now x y))
    (ranks_by (g.met.O.Order.total c.args.order.now) (λ x. x))
    (always_returns_same _ _ _ (λ a r q called. search rules))
