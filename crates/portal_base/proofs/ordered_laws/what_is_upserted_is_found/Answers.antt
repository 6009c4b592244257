use Rattle.portal_base.proofs.Upserted.{found-upserted, found-upserted_other, IsAscending-upserted}
use Rattle.portal_base.proofs.ordered_laws.what_is_upserted_is_found.Goals as goal

pub returns-clause-found : goal.returns-clause-found
returns-clause-found g c =
    λ key item items here. found-upserted g.T.Ordered.order (g.K.Key.at key) (g.met.K.Key.is_key key) item items here

pub returns-clause-others : goal.returns-clause-others
returns-clause-others g c =
    λ key item items other. found-upserted_other g.T.Ordered.order g.met.T.Ordered.total (g.K.Key.at key)
    (g.met.K.Key.is_key key) item items other

pub returns-clause-ascends : goal.returns-clause-ascends
returns-clause-ascends g c =
    λ item items up. IsAscending-upserted g.T.Ordered.order g.met.T.Ordered.total item items up
