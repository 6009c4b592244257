use Rattle.std.proofs.Common.{rules}
use Rattle.std.specs.Ordering.{is_lt}
use Rattle.std.specs.List.Sorted.{IsSortedBy}
use Rattle.std.proofs.lemmas.List.Sorted.{answers_always, ranks_by}
use Rattle.portal_base.proofs.Removed.{AreApart-are_apart}
use Rattle.portal_base.proofs.Sorted.{sort-ascending}
use Rattle.portal_base.proofs.ordered.sort.Goals as goal

pub returns : goal.returns
returns g c =
    let o = g.met.T.Ordered.total in
    let sorted : IsSortedBy (λ x y. is_lt (g.T.Ordered.order x y)) c.sort_unstable_by.new.self.items =
    c.sort_unstable_by.ensures.sorted (λ x y. is_lt (g.T.Ordered.order x y)) (ranks_by o (λ x. x))
    (answers_always _ _ _ (λ f a r q called. search rules)) in
    sort-ascending g.T.Ordered.order o _ _ (AreApart-are_apart g.T.Ordered.order c.args.items.now.items c.requires)
    c.sort_unstable_by.ensures.permutation sorted
