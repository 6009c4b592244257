use Rattle.std.proofs.Common.{rules, ◌∙◌}
use Rattle.portal_hall.proofs.Ends.{lengthens_as, passes_as, put_back, lengthened_to, passed_to}
use Rattle.portal_hall.proofs.hall.Hall.end.Goals as goal

pub fetch_add-requires : goal.fetch_add-requires
fetch_add-requires g c =
    let m = g.M.Machine in
    let e = c.exchange-nothing.ensures in
    let r = c.requires in
    let is = put_back c.args.seat.now.me c.exchange-nothing.new.seat.me c.args.held _ r.hand e.3 in
    let more = r.longer_by in (
      e.0 ∙ r.table,
      search rules,
      lengthens_as m.core m.faults m.step _ _ _ _ _ c.args.seat.now.me.0 r.ticket.0 c.args.held _ more.0 is
          r.ticket.1 r.some_room
          r.few more.1 more.2 r.short r.mark,
    )

pub fetch_add-served-requires : goal.fetch_add-served-requires
fetch_add-served-requires g c =
    let m = g.M.Machine in
    let e = c.exchange-nothing.ensures in
    let r = c.requires in
    let is = put_back c.args.seat.now.me c.exchange-nothing.new.seat.me c.args.held _ r.hand e.3 in
    let now = lengthened_to m.faults c.args.more _ c.fetch_add.new.seat.me c.args.seat.now.me.0 c.args.held is
    c.fetch_add.ensures.2 in (
      c.fetch_add.ensures.0 ∙ (e.0 ∙ r.table),
      search rules,
      passes_as m.core m.faults m.step _ _ _ _ _ c.args.seat.now.me.0 r.ticket.0 c.args.held c.args.more now
          r.ticket.1 r.some_room
          r.named r.replayed,
    )

pub returns : goal.returns
returns g c =
    let m = g.M.Machine in
    let e = c.exchange-nothing.ensures in
    let r = c.requires in
    let is = put_back c.args.seat.now.me c.exchange-nothing.new.seat.me c.args.held _ r.hand e.3 in
    let now = lengthened_to m.faults c.args.more _ c.fetch_add.new.seat.me c.args.seat.now.me.0 c.args.held is
    c.fetch_add.ensures.2 in
    let last = c.fetch_add-served.ensures in record {
      same = (last.0 ∙ (c.fetch_add.ensures.0 ∙ e.0), last.1 ∙ (c.fetch_add.ensures.1 ∙ e.1));
      after_is = passed_to m.faults c.args.more _ c.fetch_add-served.new.seat.me c.args.seat.now.me.0 c.args.held now
          last.2.0;
      all = last.2.1;
    }
