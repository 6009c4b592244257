use Rattle.std.proofs.Common.{◌≡◌, rules, subst}
use Rattle.std.specs.List.{IsAllAdjacentAnswer}
use Rattle.std.specs.Ordering.{is_lt}
use Rattle.std.proofs.lemmas.Fn.{always_returns_same}
use Rattle.portal_base.proofs.Halved.{IsAscending-adjacent}
use Rattle.portal_base.proofs.ordered.ascends.Goals as goal

pub returns : goal.returns
returns g c e =
    let cmp = g.T.Ordered.order in
    IsAscending-adjacent cmp g.met.T.Ordered.total c.args.items.now
    (subst (IsAllAdjacentAnswer (λ x y b. b ≡ is_lt (cmp x y)) c.args.items.now) e
    (c.is_sorted_by.ensures.cases (λ x y. is_lt (cmp x y))
    (always_returns_same _ _ _ (λ a r f called. search rules))))
