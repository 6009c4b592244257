-- The report was written on the portal that was opened. If none was opened, nothing was written.
use Rattle.std.proofs.Common.{inl, inr, refl, sym, ◌∙◌}
use Rattle.portal_start.proofs.Beginning.{opening_failed, opening_is, report_is}
use Rattle.portal_start.specs.Commands.{report_for}
use Rattle.portal_start.specs.OverStore.{store_trace}
use Rattle.portal_start.proofs.commands.report_over.Goals as goal

pub returns-in-Ok-clause-reports : goal.returns-in-Ok-clause-reports
returns-in-Ok-clause-reports g c = inl (record {
  state = c.in-Ok.portal.state;
  begins = c.in-Ok.ensures.opened;
  after = c.in-Ok.portal.state;
  valid = c.end_with.ensures.valid;
  leaves = c.end_with.ensures.rows;
  does = (refl, rw c.end_with.ensures.status c.write_report-status.ensures.writes);
})

pub returns-in-Ok-clause-write_fault : goal.returns-in-Ok-clause-write_fault
returns-in-Ok-clause-write_fault g c =
    λ is. c.write_report-status.ensures.write_fault (sym c.end_with.ensures.status ∙ is)

pub returns-in-Ok-clause-keeper_fault : goal.returns-in-Ok-clause-keeper_fault
returns-in-Ok-clause-keeper_fault g c =
    λ is. absurd (report_is (report_for c.args.options.now c.in-Ok.portal.state) _ _ c.write_report-status.result
    c.write_report-status.ensures.writes (sym c.end_with.ensures.status ∙ is))

pub returns-in-Err-clause-reports : goal.returns-in-Err-clause-reports
returns-in-Err-clause-reports g c = inr (c.in-Err.ensures.fails, refl)

pub returns-in-Err-clause-write_fault : goal.returns-in-Err-clause-write_fault
returns-in-Err-clause-write_fault g c =
    λ is. absurd ((opening_is
    (store_trace (g.P.Keeper.rows c.args.keeper) (g.P.Keeper.faults c.args.keeper)
    (g.P.Keeper.rows c.in-Err.ended.keeper) (g.P.Keeper.faults c.in-Err.ended.keeper)) c.in-Err.ended.status c.in-Err.ensures.fails).1 is)

pub returns-in-Err-clause-keeper_fault : goal.returns-in-Err-clause-keeper_fault
returns-in-Err-clause-keeper_fault g c = opening_failed
    (store_trace (g.P.Keeper.rows c.args.keeper) (g.P.Keeper.faults c.args.keeper)
    (g.P.Keeper.rows c.in-Err.ended.keeper) (g.P.Keeper.faults c.in-Err.ended.keeper)) c.in-Err.ended.status c.in-Err.ensures.fails
