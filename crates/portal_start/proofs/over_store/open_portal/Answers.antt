-- The status says why no portal was opened.
use Rattle.portal_start.proofs.Beginning.{cause_of_none}
use Rattle.portal_start.specs.OverStore.{store_trace}
use Rattle.portal_start.proofs.over_store.open_portal.Goals as goal

pub returns-in-Err-clause-fails : goal.returns-in-Err-clause-fails
returns-in-Err-clause-fails g c = (
  cause_of_none
      (store_trace (g.P.Keeper.rows c.args.keeper) (g.P.Keeper.faults c.args.keeper) (g.P.Keeper.rows c.in-Err.keeper)
      (g.P.Keeper.faults c.in-Err.keeper))
      c.in-Err.fault c.status_of_opening.result c.status_of_opening.ensures c.in-Err.ensures.failed
      c.in-Err.ensures.bad_rows,
  c.in-Err.ensures.kept,
)
