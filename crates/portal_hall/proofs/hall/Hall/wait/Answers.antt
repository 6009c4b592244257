use Rattle.std.proofs.Common.{rules, ◌<◌, sym, ap, ◌∙◌, subst}
use Rattle.portal_hall.specs.Turns.{Me, HasTurn}
use Rattle.portal_hall.proofs.Keeps.{looks}
use Rattle.portal_hall.proofs.hall.Hall.wait.Goals as goal

pub load-served-requires : goal.load-served-requires
load-served-requires g c =
    let i = c.loop.invariant in
    let t = c.requires.ticket in (
      i.0 ∙ c.requires.table,
      search rules,
      looks _ _ _ _ _ _ _ _ t.0 (ap (λ (m : Me g.row.M.Denot g.row.M-Event.Denot). m.0.stage) i.2 ∙ t.2)
          (subst (λ (m : Me g.row.M.Denot g.row.M-Event.Denot). 0 < m.0.room) (sym i.2) c.requires.hand.1)
          (ap (λ (m : Me g.row.M.Denot g.row.M-Event.Denot). m.1) i.2 ∙ c.requires.hand.0),
    )

pub returns-then-served-ticket-clause-turn : goal.returns-then-served-ticket-clause-turn
returns-then-served-ticket-clause-turn g c =
    let i = c.loop.invariant in
    let t = c.requires.ticket in (
      t.0,
      subst (λ (m : Me g.row.M.Denot g.row.M-Event.Denot). HasTurn g.M.Machine.core g.M.Machine.faults
          g.M.Machine.step m t.0 c.load-served.new.seat.me) i.2
          ((c.load-served.ensures.2 t.0 (ap (λ (m : Me g.row.M.Denot g.row.M-Event.Denot). m.0.stage) i.2 ∙ t.2)).0
          (c.if-served-ticket.true ∙ t.1)),
    )

pub loop-preserved : goal.loop-preserved
loop-preserved g c =
    let i = c.loop.invariant in
    let t = c.requires.ticket in
    let same = (c.load-served.ensures.2 t.0 (ap (λ (m : Me g.row.M.Denot g.row.M-Event.Denot). m.0.stage) i.2 ∙ t.2)).1
    (λ e. c.if-served-ticket.false (e ∙ sym t.1)) in
    (c.load-served.ensures.0 ∙ i.0, c.load-served.ensures.1 ∙ i.1, same ∙ i.2)
