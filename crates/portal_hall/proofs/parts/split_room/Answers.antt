use Rattle.std.proofs.Common.{rules, ℕ, ◌<◌, subst}
use Rattle.portal_hall.proofs.Seats.{cuts}
use Rattle.portal_hall.proofs.parts.split_room.Goals as goal

pub split_seat-requires : goal.split_seat-requires
split_seat-requires g c =
    let r = c.requires in (
      r.seat.table,
      search rules,
      cuts g.M.Machine.core g.M.Machine.faults g.M.Machine.step _ _ _ _ g.B.Room.room r.seat.stage
          (subst (λ (n : ℕ). 0 < n) r.room.0 r.room.1)
          (subst (λ (n : ℕ). n < c.args.seat.now.me.0.room) r.room.0 r.room.2),
    )
