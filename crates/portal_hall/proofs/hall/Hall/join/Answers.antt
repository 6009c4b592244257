use Rattle.std.proofs.Common.{rules, ◌<◌, ◌≤◌, arith, sym, ◌∙◌, subst}
use Rattle.portal_hall.specs.History.{times}
use Rattle.portal_hall.specs.Turns.{Me}
use Rattle.portal_hall.proofs.Ends.{checks}
use Rattle.portal_hall.proofs.Seats.{joins}
use Rattle.portal_hall.proofs.hall.Hall.join.Goals as goal

pub join_seat-requires : goal.join_seat-requires
join_seat-requires g c =
    let p = c.requires.pass.seat in
    let o = c.requires.other.seat in (
      p.table,
      o.table,
      o.hand,
      search rules,
      joins g.M.Machine.core g.M.Machine.faults g.M.Machine.step _ _ _ _ _ _ p.stage o.stage p.some_room,
    )

pub load-requires : goal.load-requires
load-requires g c =
    let p = c.requires.pass.seat in
    let j = c.join_seat.ensures in
    let room = p.some_room in (
      j.0 ∙ p.table,
      search rules,
      checks g.M.Machine.core g.M.Machine.faults g.M.Machine.step _ _ _ _ c.join_seat.new.seat.me
          (subst (λ (m : Me g.row.M.Denot g.row.M-Event.Denot). 0 < m.0.room) (sym j.2) (omega arith)),
    )

pub returns-clause-apart : goal.returns-clause-apart
returns-clause-apart g c = λ x.
    subst (λ (m : Me g.row.M.Denot g.row.M-Event.Denot). times x m.0.own ≤ 1) (sym c.load.ensures.2.0)
    (c.load.ensures.2.4 x)
