use Rattle.std.proofs.Common.{◌≡◌, [], ◌∷◌, ◌++◌, sym, ap, subst, ◌∙◌}
use Rattle.portal_keeper.specs.Rows.{AreInOrder}
use Rattle.portal_keeper.specs.Slots.{slot_rows}
use Rattle.portal_keeper.proofs.SlotLemmas.{moved-row}
use Rattle.portal_keeper.proofs.memory.settle.Goals as goal

pub loop-row-preserved : goal.loop-row-preserved
loop-row-preserved c =
    let before : (c.pop.new.self.items ++ c.in-Some.row ∷ []) ++ slot_rows c.loop-row.slots.entries
    ≡ c.args.given.now.items ++ slot_rows c.args.slots.now.entries =
    ap (λ l. l ++ slot_rows c.loop-row.slots.entries) (sym c.in-Some.ensures.items) ∙ c.loop-row.invariant in
    ap (λ l. c.pop.new.self.items ++ l) c.in-Ok.ensures.ok
    ∙ moved-row _ _ _ (subst AreInOrder (sym before) c.requires)
    ∙ before
