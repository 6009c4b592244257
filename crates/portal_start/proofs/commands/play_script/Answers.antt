-- The script was played on the portal that was opened. If none was opened, nothing was played.
use Rattle.std.proofs.Common.{inl, inr, refl, subst, sym, ◌∙◌}
use Rattle.portal_start.proofs.Beginning.{kept_by, listed_is, opening_failed, opening_is, plays_by, read_by, too_long_by}
use Rattle.portal_start.proofs.Beginning.{unread_is, written_by}
use Rattle.portal_base.specs.Outside.{Rose}
use Rattle.portal_serve.proofs.Fetching.{same_fetchers}
use Rattle.portal_links.proofs.Writing.{Rose-before}
use Rattle.portal_status.specs.declared.status.Status.TheVariants.{KeeperFault, ReadFault, WriteFault}
use Rattle.portal_start.specs.OverStore.{store_trace}
use Rattle.portal_start.proofs.commands.play_script.Goals as goal

pub returns-in-Ok-clause-plays : goal.returns-in-Ok-clause-plays
returns-in-Ok-clause-plays g c = inl (record {
  state = c.in-Ok.portal.state;
  begins = c.in-Ok.ensures.opened;
  after = c.play-end.new.portal.state;
  valid = c.end_with.ensures.valid;
  leaves = c.end_with.ensures.rows;
  does = (
    c.play-end.result.0,
    c.play-end.result.1,
    rw (c.end_with.ensures.status, c.end_with.ensures.rounds) c.list_rounds-status.ensures,
    plays_by _ _ _ _ _ _ c.play-end.result.0 c.play-end.ensures.done c.play-end.ensures.cut c.play-end.ensures.unended,
  );
})

pub returns-in-Ok-clause-read_fault : goal.returns-in-Ok-clause-read_fault
returns-in-Ok-clause-read_fault g c =
    λ is. c.play-end.ensures.read_fault (read_by _ (listed_is _ c.play-end.result.1 _ _ ReadFault (λ e. absurd (cc))
    c.list_rounds-status.ensures (sym c.end_with.ensures.status ∙ is)))

pub returns-in-Ok-clause-write_fault : goal.returns-in-Ok-clause-write_fault
returns-in-Ok-clause-write_fault g c =
    λ is. c.play-end.ensures.write_fault (written_by _ (listed_is _ c.play-end.result.1 _ _ WriteFault
    (λ e. absurd (cc)) c.list_rounds-status.ensures (sym c.end_with.ensures.status ∙ is)))

pub returns-in-Ok-clause-keeper_fault : goal.returns-in-Ok-clause-keeper_fault
returns-in-Ok-clause-keeper_fault g c =
    λ is. subst (λ keeper. Rose (g.P.Keeper.faults c.args.keeper) (g.P.Keeper.faults keeper))
    (sym c.end_with.ensures.keeper)
    (Rose-before _ _ _ c.in-Ok.ensures.counts
    (c.play-end.ensures.keeper_fault (kept_by _ (listed_is _ c.play-end.result.1 _ _ KeeperFault (λ e. absurd (cc))
    c.list_rounds-status.ensures (sym c.end_with.ensures.status ∙ is)))))

pub returns-in-Ok-clause-too_much : goal.returns-in-Ok-clause-too_much
returns-in-Ok-clause-too_much g c = λ whole observed.
    rw c.end_with.ensures.status (too_long_by _ c.play-end.result.1 _ _ _ c.list_rounds-status.ensures
    (c.play-end.ensures.too_long whole observed))

pub returns-in-Err-clause-plays : goal.returns-in-Err-clause-plays
returns-in-Err-clause-plays g c = inr (c.in-Err.ensures.fails, (refl, refl, c.in-Err.ensures.no_rounds))

pub returns-in-Err-clause-fetchers : goal.returns-in-Err-clause-fetchers
returns-in-Err-clause-fetchers g c = same_fetchers g.F.Fetcher.held g.F.Fetcher.faults c.args.fetchers.now.items

pub returns-in-Err-clause-read_fault : goal.returns-in-Err-clause-read_fault
returns-in-Err-clause-read_fault g c =
    λ is. absurd ((opening_is
    (store_trace (g.P.Keeper.rows c.args.keeper) (g.P.Keeper.faults c.args.keeper)
    (g.P.Keeper.rows c.in-Err.ended.keeper) (g.P.Keeper.faults c.in-Err.ended.keeper)) c.in-Err.ended.status c.in-Err.ensures.fails).0 is)

pub returns-in-Err-clause-write_fault : goal.returns-in-Err-clause-write_fault
returns-in-Err-clause-write_fault g c =
    λ is. absurd ((opening_is
    (store_trace (g.P.Keeper.rows c.args.keeper) (g.P.Keeper.faults c.args.keeper)
    (g.P.Keeper.rows c.in-Err.ended.keeper) (g.P.Keeper.faults c.in-Err.ended.keeper)) c.in-Err.ended.status c.in-Err.ensures.fails).1 is)

pub returns-in-Err-clause-keeper_fault : goal.returns-in-Err-clause-keeper_fault
returns-in-Err-clause-keeper_fault g c = opening_failed
    (store_trace (g.P.Keeper.rows c.args.keeper) (g.P.Keeper.faults c.args.keeper)
    (g.P.Keeper.rows c.in-Err.ended.keeper) (g.P.Keeper.faults c.in-Err.ended.keeper)) c.in-Err.ended.status c.in-Err.ensures.fails

pub returns-in-Err-clause-too_much : goal.returns-in-Err-clause-too_much
returns-in-Err-clause-too_much g c = λ whole observed.
    unread_is _ whole _ (opening_is
    (store_trace (g.P.Keeper.rows c.args.keeper) (g.P.Keeper.faults c.args.keeper)
    (g.P.Keeper.rows c.in-Err.ended.keeper) (g.P.Keeper.faults c.in-Err.ended.keeper)) c.in-Err.ended.status c.in-Err.ensures.fails).3 observed
