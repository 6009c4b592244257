use Rattle.portal_base.proofs.Upserted.{filter-upserted, filter-dropped}
use Rattle.portal_base.proofs.ordered_laws.what_is_kept_changes_alike.Goals as goal

pub returns-clause-upserted : goal.returns-clause-upserted
returns-clause-upserted g c =
    λ keeps item items up. filter-upserted g.T.Ordered.order g.met.T.Ordered.total keeps item items up

pub returns-clause-dropped : goal.returns-clause-dropped
returns-clause-dropped g c = λ keeps key items. filter-dropped keeps (g.K.Key.at key) items
