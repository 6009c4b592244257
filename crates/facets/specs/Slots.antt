-- The representation of counters: at each id that has a slot there are facts, or none yet. No public clause cites these
-- definitions.
use Rattle.std.specs.Prelude.{ℕ, Bool, false, List, [], ◌∷◌, Option, Some, None, cond}
use Rattle.std.specs.List.{list_any}
use Rattle.std.specs.Map.{keys_of}
use Rattle.std.specs.Str.{bytes_eq}
use Rattle.visibility.specs.declared.class.Class.{Class}
use Rattle.facets.specs.Counters.{Entry}
use Rattle.facets.specs.Facts.{texts_at}
use Rattle.facets.specs.Tally.{own_values}
use Rattle.facets.specs.declared.facts.Facts.{Facts}
use Rattle.facets.specs.declared.field.FacetField.{FacetField}

abbrev pub Slot : Type 0
Slot = List ℕ × Option Facts

-- the entry of a slot, if it has facts, and then these entries
abbrev pub slot_entry_and : List ℕ → Option Facts → List Entry → List Entry
slot_entry_and id None entries = entries
slot_entry_and id (Some facts) entries = (id, facts) ∷ entries

-- the entries of the slots that have facts
abbrev pub slot_entries : List Slot → List Entry
slot_entries [] = []
slot_entries (slot ∷ slots) = slot_entry_and slot.0 slot.1 (slot_entries slots)

-- whether there is a slot at the id
abbrev pub has_slot : List ℕ → List Slot → Bool
has_slot id slots = list_any (bytes_eq id) (keys_of slots)

-- whether the slot has facts that pass the test
abbrev pub slot_passes : (Facts → Bool) → Option Facts → Bool
slot_passes test None = false
slot_passes test (Some facts) = test facts

-- the values of a slot's facts in the field, if their class passes the test
abbrev pub slot_values : (Class → Bool) → FacetField → Option Facts → List (List ℕ)
slot_values test field None = []
slot_values test field (Some facts) = cond (test facts.class) (own_values (texts_at field facts)) []
