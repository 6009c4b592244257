use Rattle.portal_base.proofs.Removed.{found-inserted, found-inserted_other, IsAscending-inserted_key}
use Rattle.portal_base.proofs.ordered_laws.what_is_inserted_is_found.Goals as goal

pub returns-clause-found : goal.returns-clause-found
returns-clause-found g c =
    λ key item items here none. found-inserted g.T.Ordered.order (g.K.Key.at key) item items here none

pub returns-clause-others : goal.returns-clause-others
returns-clause-others g c =
    λ key item items other. found-inserted_other g.T.Ordered.order (g.K.Key.at key) item items other

pub returns-clause-ascends : goal.returns-clause-ascends
returns-clause-ascends g c =
    λ key item items here none up. IsAscending-inserted_key g.T.Ordered.order g.met.T.Ordered.total (g.K.Key.at key)
    (g.met.K.Key.is_key key) item items here none up
