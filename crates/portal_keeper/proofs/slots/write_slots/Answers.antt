use Rattle.std.proofs.Common.{map, sym, ap, subst, ◌∙◌}
use Rattle.std.specs.List.{All}
use Rattle.std.proofs.lemmas.List.Elements.{All-tail}
use Rattle.portal_keeper.specs.Changed.{rows_after}
use Rattle.portal_keeper.specs.Slots.{slot_rows, HasSlot, change_of}
use Rattle.portal_keeper.proofs.slots.write_slots.Goals as goal

pub loop-write-preserved : goal.loop-write-preserved
loop-write-preserved c =
    let items = c.in-Some.ensures.steps.0 in (
      tt,
      tt,
      ap (rows_after (map change_of c.next.new.self.rest.items)) c.write_slot.ensures.rows
          ∙ ap (λ l. rows_after (map change_of l) (slot_rows c.loop-write.slots.entries)) (sym items)
          ∙ c.loop-write.invariant.2,
      λ k d lt. c.write_slot.ensures.others _
          (All-tail (λ write. HasSlot c.loop-write.slots.entries write.key) c.in-Some.write c.next.new.self.rest.items
          (subst (All (λ write. HasSlot c.loop-write.slots.entries write.key)) items c.loop-write.invariant.3) k d lt),
    )
