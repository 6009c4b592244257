use Rattle.std.proofs.Common.{rules}
use Rattle.std.specs.Ordering.{is_lt}
use Rattle.std.specs.List.Sorted.{IsSplitAround}
use Rattle.std.proofs.lemmas.Fn.{always_returns_same}
use Rattle.std.proofs.lemmas.List.Sorted.{ranks_by}
use Rattle.portal_base.proofs.Removed.{AreApart-are_apart}
use Rattle.sorted_pages.proofs.SelectLemmas.{select_sorted}
use Rattle.sorted_pages.proofs.order.select_first.Goals as goal

pub returns : goal.returns
returns g c =
    let cmp = g.O.Order.cmp c.args.order.now in
    let o = g.met.O.Order.total c.args.order.now in
    let split : IsSplitAround cmp c.select_nth_unstable_by-front.result.0.now
    c.select_nth_unstable_by-front.result.1.now c.select_nth_unstable_by-front.result.2.now =
    c.select_nth_unstable_by-front.ensures.partitioned (λ x y. is_lt (cmp x y)) (ranks_by o (λ x. x))
    (always_returns_same _ _ _ (λ a r q called. search rules)) in
    select_sorted cmp o c.args.items.now c.select_nth_unstable_by-front.result.0.now
    c.select_nth_unstable_by-front.result.1.now c.select_nth_unstable_by-front.result.2.now c.put_in_order.new.items
    c.args.count (AreApart-are_apart cmp c.args.items.now c.requires.apart)
    c.select_nth_unstable_by-front.ensures.permutation split c.select_nth_unstable_by-front.ensures.front_len
    c.put_in_order.ensures.permutation c.put_in_order.ensures.sorted
