use Rattle.portal_base.proofs.Upserted.{found-dropped, found-dropped_other, IsAscending-dropped, dropped-removed}
use Rattle.portal_base.proofs.ordered_laws.what_is_dropped_is_not_found.Goals as goal

pub returns-clause-found : goal.returns-clause-found
returns-clause-found g c = λ key items. found-dropped (g.K.Key.at key) items

pub returns-clause-others : goal.returns-clause-others
returns-clause-others g c =
    λ key other items apart. found-dropped_other (g.K.Key.at key) (g.K.Key.at other) items apart

pub returns-clause-ascends : goal.returns-clause-ascends
returns-clause-ascends g c = λ key items up. IsAscending-dropped g.T.Ordered.order (g.K.Key.at key) items up

pub returns-clause-one : goal.returns-clause-one
returns-clause-one g c =
    λ key items up. dropped-removed g.T.Ordered.order g.met.T.Ordered.total (g.K.Key.at key)
    (g.met.K.Key.is_key key) items up
