use Rattle.std.proofs.Common.{◌≡◌, ◌+◌, ◌&&◌, filter, length}
use Rattle.std.specs.BTreeMap.{values}
use Rattle.facets.specs.Counts.{has_text}
use Rattle.facets.specs.Facts.{same_class, texts_at}
use Rattle.facets.specs.Slots.{slot_passes}
use Rattle.facets.proofs.counters.count_in.Given as goal

-- The count so far, and that of the remaining slots, are the count of all.
abbrev pub invariant-loop-slot : goal.invariant-loop-slot
invariant-loop-slot l =
    l.count
    + length (filter (slot_passes
    (λ facts. same_class facts.class l.class && has_text (texts_at l.field) l.value facts)) l.slot-iterator)
    ≡ length (filter (slot_passes
    (λ facts. same_class facts.class l.class && has_text (texts_at l.field) l.value facts)) (values l.slots))
