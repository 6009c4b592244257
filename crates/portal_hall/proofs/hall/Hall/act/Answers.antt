use Rattle.std.proofs.Common.{ℕ, sym, subst, ◌∙◌}
use Rattle.portal_hall.specs.Passes.{MayEnd, Ended}
use Rattle.portal_hall.proofs.Acts.{may_end, entry_after, alone_after}
use Rattle.portal_hall.proofs.hall.Hall.act.Goals as goal

pub end-requires : goal.end-requires
end-requires g c =
    let m = g.M.Machine in
    let w = c.act_and_record-acted.ensures in
    let now = c.begin-held.new.seat in
    let held = c.act_and_record-acted.new.self in
    subst (λ (k : ℕ). MayEnd m.core m.faults m.step c.args.self.now k now held) (sym c.events-more.ensures)
    (may_end m.core m.faults m.step m.IsOutOfMemory m.IsFault c.args.self.now c.args.pass.now.seat now c.begin-held.result
    held c.args.event c.act_and_record-acted.result c.requires.seat c.begin-held.ensures
    record { entry = w.entry; no_entry = w.no_entry; back = w.back; short = w.short; counts = w.counts })

pub returns-clause-entry : goal.returns-clause-entry
returns-clause-entry g c =
    let m = g.M.Machine in
    let w = c.act_and_record-acted.ensures in
    let now = c.begin-held.new.seat in
    let held = c.act_and_record-acted.new.self in
    entry_after m.core m.faults m.step m.IsOutOfMemory m.IsFault c.args.self.now c.args.pass.now.seat now c.end.new.seat
    c.begin-held.result held c.args.event c.act_and_record-acted.result c.begin-held.ensures
    record { entry = w.entry; no_entry = w.no_entry; back = w.back; short = w.short; counts = w.counts }
    (subst (λ (k : ℕ). Ended m.core m.faults m.step k now c.end.new.seat held) c.events-more.ensures c.end.ensures)

pub returns-clause-alone : goal.returns-clause-alone
returns-clause-alone g c = λ all.
    let m = g.M.Machine in
    let w = c.act_and_record-acted.ensures in
    let now = c.begin-held.new.seat in
    let held = c.act_and_record-acted.new.self in
    alone_after m.core m.faults m.step m.IsOutOfMemory m.IsFault c.args.self.now c.args.pass.now.seat now c.end.new.seat
    c.begin-held.result held c.args.event c.act_and_record-acted.result c.begin-held.ensures
    record { entry = w.entry; no_entry = w.no_entry; back = w.back; short = w.short; counts = w.counts }
    (subst (λ (k : ℕ). Ended m.core m.faults m.step k now c.end.new.seat held) c.events-more.ensures c.end.ensures)
    (sym c.requires.room ∙ (all ∙ sym c.requires.seat.seats_is))
