use Rattle.std.proofs.Common.{◌≡◌, ◌++◌, flat_map}
use Rattle.std.specs.BTreeMap.{values}
use Rattle.facets.specs.ClassSet.{has_class}
use Rattle.facets.specs.Slots.{slot_values}
use Rattle.facets.proofs.counters.values_of_slots.Given as goal

-- The values so far, and those of the remaining slots, are all values.
abbrev pub invariant-loop-slot : goal.invariant-loop-slot
invariant-loop-slot l =
    l.found.items ++ flat_map (slot_values (has_class l.classes) l.field) l.slot-iterator
    ≡ flat_map (slot_values (has_class l.classes) l.field) (values l.slots)
