use Rattle.portal_base.proofs.Removed.{removed-inserted, inserted-removed}
use Rattle.portal_base.proofs.ordered_laws.insertion_and_removal_undo_each_other.Goals as goal

pub returns-clause-inserted : goal.returns-clause-inserted
returns-clause-inserted g c =
    λ key item items here none. removed-inserted g.T.Ordered.order (g.K.Key.at key) item items here none

pub returns-clause-removed : goal.returns-clause-removed
returns-clause-removed g c =
    λ key item items up here. inserted-removed g.T.Ordered.order g.met.T.Ordered.total
    (g.K.Key.at key) item items up here
