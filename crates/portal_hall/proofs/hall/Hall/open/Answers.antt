use Rattle.std.proofs.Common.{arith, List, ◌∷◌, [], ◌++◌, Some, sym, refl, ap, ◌∙◌}
use Rattle.portal_hall.specs.declared.board.HeldMachine.{HeldMachine}
use Rattle.portal_hall.specs.Turns.{Slot}
use Rattle.portal_hall.proofs.Seats.{opens}
use Rattle.portal_hall.proofs.hall.Hall.open.Goals as goal

pub new-requires-2 : goal.new-requires-2
new-requires-2 g c =
    let held : HeldMachine g.row.M.Denot g.row.M-Event.Denot = record { machine = c.args.machine; history = c.new.result } in
    opens g.M.Machine.core g.M.Machine.faults g.M.Machine.step _ _ held _ _ (sym c.of.ensures) c.new.ensures.items
    (omega arith) c.requires.1 refl
    (c.in_default.ensures.items ∙ ap (λ (l : List (Slot g.row.M.Denot g.row.M-Event.Denot)). l ++ Some held ∷ [])
    c.new-slots.ensures.items)
