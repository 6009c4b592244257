use Rattle.std.proofs.Common.{◌≡◌, map, sym, ap, subst, ◌∙◌}
use Rattle.std.specs.List.{All}
use Rattle.portal_keeper.specs.Slots.{HasSlot}
use Rattle.portal_keeper.proofs.SlotLemmas.{on_ok, slots_of_writes}
use Rattle.portal_keeper.proofs.slots.change_slots.Goals as goal

pub write_slots-requires : goal.write_slots-requires
write_slots-requires c =
    let keys : c.as_slice-2.result.now ≡ map (λ write. write.key) c.in_ok-writes.writes.items =
    c.as_slice-2.ensures.value ∙ c.in_ok-keys.ensures ∙ ap (map (λ write. write.key)) c.as_slice.ensures.value in
    slots_of_writes c.reserve_slots-reserved.new.slots.entries c.in_ok-writes.writes.items
    (subst (All (HasSlot c.reserve_slots-reserved.new.slots.entries)) keys
    (on_ok _ (sym c.is_ok.ensures.value ∙ c.if-is_ok.true) c.reserve_slots-reserved.ensures.reserved))
