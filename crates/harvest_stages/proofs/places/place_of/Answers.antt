use Rattle.std.proofs.Common.{rules, ◌∙◌}
use Rattle.std.proofs.lemmas.Fn.{always_returns_same}
use Rattle.portal_base.proofs.Halved.{position_by_halving}
use Rattle.harvest_stages.proofs.places.place_of.Goals as goal

pub returns-clause-place : goal.returns-clause-place
returns-clause-place g c =
    let key = c.args.key.now in
    c.ok.ensures.value
    ∙ position_by_halving g.T.Ordered.order g.met.T.Ordered.total (g.K.Key.at key) (g.met.K.Key.is_key key)
    (g.met.K.Key.is_monotone key) c.args.items.now c.requires c.binary_search_by.result
    c.binary_search_by.ensures.bound
    (c.binary_search_by.ensures.position (g.K.Key.at key)
    (always_returns_same _ _ _ (λ a r f called. search rules)))
