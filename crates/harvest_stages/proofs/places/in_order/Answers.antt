use Rattle.std.proofs.Common.{◌≡◌, subst, sym, true}
use Rattle.portal_base.specs.Ordered.{IsAscending}
use Rattle.harvest_stages.proofs.FoundLemmas.{sorted-apart, sorted-equal}
use Rattle.harvest_stages.proofs.places.in_order.Goals as goal

pub returns-then-ascends-clause-exactly : goal.returns-then-ascends-clause-exactly
returns-then-ascends-clause-exactly g c =
    sym (sorted-apart g.T.Ordered.order g.met.T.Ordered.total c.args.items.items c.sorted-items.result.items
    c.sorted-items.ensures.permutation c.sorted-items.ensures.sorted
    (subst (IsAscending g.T.Ordered.order) c.as_slice.ensures.value (c.ascends.ensures.0 c.if-ascends.true))).0

pub returns-then-ascends-clause-items : goal.returns-then-ascends-clause-items
returns-then-ascends-clause-items g c =
    (sorted-apart g.T.Ordered.order g.met.T.Ordered.total c.args.items.items c.sorted-items.result.items
    c.sorted-items.ensures.permutation c.sorted-items.ensures.sorted
    (subst (IsAscending g.T.Ordered.order) c.as_slice.ensures.value (c.ascends.ensures.0 c.if-ascends.true))).1

pub returns-else-ascends-clause-exactly : goal.returns-else-ascends-clause-exactly
returns-else-ascends-clause-exactly g c =
    sym (sorted-equal g.T.Ordered.order g.met.T.Ordered.total c.args.items.items c.sorted-items.result.items
    c.sorted-items.ensures.permutation c.sorted-items.ensures.sorted
    (λ up.
    let yes : c.ascends.result ≡ true =
    c.ascends.ensures.1 (subst (IsAscending g.T.Ordered.order) (sym c.as_slice.ensures.value) up) in
    cc (yes, c.if-ascends.false)))
