use Rattle.std.proofs.Common.{◌++◌, sym, ap, subst}
use Rattle.portal_keeper.specs.Rows.{AreInOrder}
use Rattle.portal_keeper.specs.Slots.{slot_rows}
use Rattle.portal_keeper.proofs.SlotLemmas.{settled_in_order, changed_in_order}
use Rattle.portal_keeper.proofs.memory.MemoryKeeper.change.Goals as goal

pub invariant_of-self-2 : goal.invariant_of-self-2
invariant_of-self-2 c =
    subst AreInOrder (ap (λ l. l ++ slot_rows c.change_slots.new.slots.entries) (sym c.in_ok-settle.ensures.settled))
    (changed_in_order c.change_slots.result c.args.changes.now _ _ c.change_slots.ensures.changed
    c.change_slots.ensures.refused
    (settled_in_order _ _ _ c.in_ok-settle.ensures.settled c.in_ok-settle.ensures.same c.self.invariant))
