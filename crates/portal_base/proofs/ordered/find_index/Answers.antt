use Rattle.std.proofs.Common.{rules}
use Rattle.std.proofs.lemmas.Fn.{always_returns_same}
use Rattle.portal_base.proofs.Halved.{index_by_halving}
use Rattle.portal_base.proofs.ordered.find_index.Goals as goal

pub returns : goal.returns
returns g c =
    let cmp = g.T.Ordered.order in
    let both = index_by_halving cmp g.met.T.Ordered.total c.args.item.now c.args.items.now c.requires
    c.binary_search_by.result c.binary_search_by.ensures.bound
    (c.binary_search_by.ensures.position (λ y. cmp y c.args.item.now)
    (always_returns_same _ _ _ (λ a r f called. search rules))) in
    record { within = c.binary_search_by.ensures.bound; found = both.0; upserted = both.1 }
