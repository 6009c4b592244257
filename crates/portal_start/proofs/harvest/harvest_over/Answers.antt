-- A job and a round were made on the portal that was opened. If none was opened, nothing was made.
use Rattle.std.proofs.Common.{[], inl, inr, refl, subst, sym, ◌∙◌, arith, rules}
use Rattle.std.proofs.lemmas.Grind.{common_steps}
use Rattle.portal_base.specs.Outside.{Rose}
use Rattle.portal_serve.proofs.Fetching.{same_fetchers}
use Rattle.portal_links.proofs.Writing.{Rose-before}
use Rattle.portal_serve.specs.Rounds.{pool_trace}
use Rattle.portal_serve.specs.Run.{stage_trace}
use Rattle.portal_start.proofs.Beginning.{opening_failed, opening_is}
use Rattle.portal_start.proofs.Harvesting.{stage_same}
use Rattle.portal_start.specs.HarvestCommand.{Harvests}
use Rattle.portal_start.specs.OverStore.{store_trace}
use Rattle.portal_start.proofs.harvest.harvest_over.Goals as goal

pub returns-in-Ok-clause-harvests : goal.returns-in-Ok-clause-harvests
returns-in-Ok-clause-harvests g c = inl (record {
  state = c.in-Ok.portal.state;
  begins = c.in-Ok.ensures.opened;
  after = c.harvest_source-status.new.portal.state;
  valid = c.end_with.ensures.valid;
  leaves = c.end_with.ensures.rows;
  does = rw (c.end_with.ensures.status, c.end_with.ensures.rounds)
      (subst (λ left. Harvests c.args.options.now c.in-Ok.portal.state c.harvest_source-status.new.portal.state
      (stage_trace (g.O.Sink.taken c.args.output.now) (g.C.Clock.given c.args.clock.now)
      (g.N.Nonces.given c.args.nonces.now)) left
      (pool_trace g.F.Fetcher.held g.F.Fetcher.faults c.args.fetchers.now.items [])
      (pool_trace g.F.Fetcher.held g.F.Fetcher.faults c.harvest_source-status.new.fetchers.items [])
      c.harvest_source-status.result.1 c.harvest_source-status.result.0)
      (stage_same
      (g.O.Sink.taken c.harvest_source-status.new.stage.output.now) (g.O.Sink.taken c.output-1.given.0)
      (g.C.Clock.given c.harvest_source-status.new.stage.clock.now) (g.C.Clock.given c.clock-1.given.0)
      (g.N.Nonces.given c.harvest_source-status.new.stage.nonces.now) (g.N.Nonces.given c.nonces-1.given.0)
      (first_of (search rules, grind (arith, common_steps), cc))
      (first_of (search rules, grind (arith, common_steps), cc))
      (first_of (search rules, grind (arith, common_steps), cc)))
      c.harvest_source-status.ensures.harvests);
})

pub returns-in-Ok-clause-keeper_fault : goal.returns-in-Ok-clause-keeper_fault
returns-in-Ok-clause-keeper_fault g c =
    λ is. subst (λ keeper. Rose (g.P.Keeper.faults c.args.keeper) (g.P.Keeper.faults keeper))
    (sym c.end_with.ensures.keeper)
    (Rose-before _ _ _ c.in-Ok.ensures.counts
    (c.harvest_source-status.ensures.keeper_fault (sym c.end_with.ensures.status ∙ is)))

pub returns-in-Err-clause-harvests : goal.returns-in-Err-clause-harvests
returns-in-Err-clause-harvests g c = inr (c.in-Err.ensures.fails, (refl, refl, c.in-Err.ensures.no_rounds))

pub returns-in-Err-clause-fetchers : goal.returns-in-Err-clause-fetchers
returns-in-Err-clause-fetchers g c = same_fetchers g.F.Fetcher.held g.F.Fetcher.faults c.args.fetchers.now.items

pub returns-in-Err-clause-write_fault : goal.returns-in-Err-clause-write_fault
returns-in-Err-clause-write_fault g c =
    λ is. absurd ((opening_is
    (store_trace (g.P.Keeper.rows c.args.keeper) (g.P.Keeper.faults c.args.keeper)
    (g.P.Keeper.rows c.in-Err.ended.keeper) (g.P.Keeper.faults c.in-Err.ended.keeper)) c.in-Err.ended.status
    c.in-Err.ensures.fails).1 is)

pub returns-in-Err-clause-keeper_fault : goal.returns-in-Err-clause-keeper_fault
returns-in-Err-clause-keeper_fault g c = opening_failed
    (store_trace (g.P.Keeper.rows c.args.keeper) (g.P.Keeper.faults c.args.keeper)
    (g.P.Keeper.rows c.in-Err.ended.keeper) (g.P.Keeper.faults c.in-Err.ended.keeper)) c.in-Err.ended.status
    c.in-Err.ensures.fails
