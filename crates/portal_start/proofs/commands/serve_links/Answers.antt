-- The desk was served from the portal that was opened. If none was opened, nothing was served.
use Rattle.std.proofs.Common.{inl, inr, refl, sym, ◌∙◌}
use Rattle.portal_start.proofs.Beginning.{fails_by, no_keeper_by, opening_failed, opening_is}
use Rattle.portal_start.specs.OverStore.{store_trace}
use Rattle.portal_start.proofs.commands.serve_links.Goals as goal

pub returns-in-Ok-clause-serves : goal.returns-in-Ok-clause-serves
returns-in-Ok-clause-serves g c = inl (record {
  state = c.in-Ok.portal.state;
  begins = c.in-Ok.ensures.opened;
  after = c.serve_desk-served.new.portal.state;
  valid = c.end_with.ensures.valid;
  leaves = c.end_with.ensures.rows;
  does = (
    c.serve_desk-served.result,
    c.end_with.ensures.status ∙ c.status_of_desk.ensures,
    c.serve_desk-served.ensures.served,
  );
})

pub returns-in-Ok-clause-listen_fault : goal.returns-in-Ok-clause-listen_fault
returns-in-Ok-clause-listen_fault g c =
    λ is. fails_by _ _ c.serve_desk-served.result c.serve_desk-served.ensures.served.failed
    (sym (c.end_with.ensures.status ∙ c.status_of_desk.ensures) ∙ is)

pub returns-in-Ok-clause-keeper_fault : goal.returns-in-Ok-clause-keeper_fault
returns-in-Ok-clause-keeper_fault g c =
    λ is. absurd (no_keeper_by c.serve_desk-served.result
    (sym (c.end_with.ensures.status ∙ c.status_of_desk.ensures) ∙ is))

pub returns-in-Err-clause-serves : goal.returns-in-Err-clause-serves
returns-in-Err-clause-serves g c = inr (c.in-Err.ensures.fails, refl)

pub returns-in-Err-clause-listen_fault : goal.returns-in-Err-clause-listen_fault
returns-in-Err-clause-listen_fault g c =
    λ is. absurd ((opening_is
    (store_trace (g.P.Keeper.rows c.args.keeper) (g.P.Keeper.faults c.args.keeper)
    (g.P.Keeper.rows c.in-Err.ended.keeper) (g.P.Keeper.faults c.in-Err.ended.keeper)) c.in-Err.ended.status c.in-Err.ensures.fails).2 is)

pub returns-in-Err-clause-keeper_fault : goal.returns-in-Err-clause-keeper_fault
returns-in-Err-clause-keeper_fault g c = opening_failed
    (store_trace (g.P.Keeper.rows c.args.keeper) (g.P.Keeper.faults c.args.keeper)
    (g.P.Keeper.rows c.in-Err.ended.keeper) (g.P.Keeper.faults c.in-Err.ended.keeper)) c.in-Err.ended.status c.in-Err.ensures.fails
