use Rattle.std.proofs.Common.{rules, List, length, sym, ap, ◌∙◌, subst}
use Rattle.std.specs.Prelude.{IsSome}
use Rattle.portal_hall.specs.History.{Begins, once_below, replay, IsLegal}
use Rattle.portal_hall.specs.Turns.{Slot}
use Rattle.portal_hall.proofs.Seats.{slot_full, closes_with}
use Rattle.portal_hall.proofs.hall.Hall.close.Goals as goal

pub unwrap-machine-requires : goal.unwrap-machine-requires
unwrap-machine-requires g c =
    let m = g.M.Machine in
    let r = c.requires in
    let all = sym r.pass.room ∙ r.all in
    let full = slot_full m.core m.faults m.step _ _ _ c.args.pass.seat.me.0 _ _ c.take-held.result all r.pass.seat.stage
    c.close_with-closed.ensures.values.2 c.take-held.ensures.value in
    subst (λ (x : Slot g.row.M.Denot g.row.M-Event.Denot). IsSome x) (sym full.1) (search rules)

pub returns : goal.returns
returns g c =
    let m = g.M.Machine in
    let r = c.requires in
    let v = c.args.pass.seat.me.0 in
    let all = sym r.pass.room ∙ r.all in
    let from = m.core c.args.self.table.shared.key.0.value in
    let same = sym c.from.ensures in
    let p = closes_with m.core m.faults m.step _ _ _ v _ _ c.take-held.result c.unwrap-machine.result all
    r.pass.seat.stage
    c.close_with-closed.ensures.values.2 c.take-held.ensures.value c.unwrap-machine.ensures in record {
      seen = subst (λ (l : List g.row.M-Event.Denot). Begins v.seen l) same p.0;
      own = λ x. p.1 x ∙ ap (λ (l : List g.row.M-Event.Denot). once_below x (length l)) same;
      legal = subst (λ (l : List g.row.M-Event.Denot). IsLegal m.step from l) same p.2.0;
      core = p.2.1 ∙ ap (λ (l : List g.row.M-Event.Denot). replay m.step from l) same;
      mark = p.3;
    }
