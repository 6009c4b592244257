use Rattle.portal_hall.proofs.Acts.{begun}
use Rattle.portal_hall.proofs.hall.Hall.begin.Goals as goal

pub returns : goal.returns
returns g c =
    let d = c.draw-ticket.ensures in
    let w = c.wait.ensures in
    let t = c.take.ensures in
    begun _ _ _ c.args.self.now c.args.seat.now c.draw-ticket.new.seat c.wait.new.seat c.take.new.seat c.take.result
    c.requires
    d.same d.ticket.0 d.ticket.2 w.same w.turn.0 w.turn.1 t.same t.held.0 t.held.1
