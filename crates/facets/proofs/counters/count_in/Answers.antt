use Rattle.std.proofs.Common.{◌≤◌, ◌+◌, ◌∙◌, ◌&&◌, Bool, Option, length, arith, ap, sym}
use Rattle.std.specs.BTreeMap.{values}
use Rattle.facets.specs.Counts.{has_text}
use Rattle.facets.specs.Facts.{same_class, texts_at}
use Rattle.facets.specs.Slots.{slot_passes}
use Rattle.facets.specs.declared.facts.Facts.{Facts}
use Rattle.facets.proofs.SlotLemmas.{count_below}
use Rattle.facets.proofs.counters.count_in.Goals as goal

-- The count of all slots is in its type's range.
pub overflow_add-count : goal.overflow_add-count
overflow_add-count c =
    let test : Option Facts → Bool =
    slot_passes (λ facts. same_class facts.class c.args.class.now && has_text (texts_at c.args.field) c.args.value.now facts) in
    let below : c.loop-slot.count + 1 ≤ length (values c.args.slots.now) =
    count_below test c.loop-slot.count (values c.args.slots.now) c.loop-slot.slot-iterator _ c.in-Some.slot.now
    c.loop-slot.invariant c.in-Some.ensures.steps (sym c.is_counted.ensures ∙ c.if-is_counted.true) in
    omega (arith, below, c.values-slot-items.ensures.len, c.values-slot-items.ensures.fits, ap length c.values-slot-items.ensures.rest)
