use Rattle.std.proofs.Common.{rules}
use Rattle.std.specs.Ordering.{is_lt}
use Rattle.std.proofs.lemmas.Fn.{always_returns_same}
use Rattle.harvest_stages.proofs.FoundLemmas.{adjacent-ascends}
use Rattle.harvest_stages.proofs.places.ascends.Goals as goal

pub returns : goal.returns
returns g c =
    adjacent-ascends g.T.Ordered.order g.met.T.Ordered.total c.args.items.now c.is_sorted_by.result
    (c.is_sorted_by.ensures.cases (λ x y. is_lt (g.T.Ordered.order x y))
    (always_returns_same _ _ _ (λ a r f called. search rules)))
