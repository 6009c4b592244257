use Rattle.std.proofs.Common.{◌≡◌, ◌∙◌, ◌||◌, ℕ, List, None, ap, sym}
use Rattle.std.specs.BTreeMap.{is_at}
use Rattle.std.specs.Map.{lookup}
use Rattle.std.specs.Str.{bytes_eq}
use Rattle.facets.specs.Slots.{has_slot, slot_entries}
use Rattle.facets.proofs.SlotLemmas.{id_cmp, lookup-has_slot, no_slot, slot_entries-made, slot_there, slots_after_write}
use Rattle.facets.proofs.counters.make_slot.Goals as goal

pub returns-then-contains_key-clause-made : goal.returns-then-contains_key-clause-made
returns-then-contains_key-clause-made c = λ other.
    slot_there c.args.id.now other c.args.slots.now.entries
    (sym (lookup-has_slot c.args.id.now c.args.slots.now.entries) ∙ sym c.contains_key.ensures ∙ c.if-contains_key.true)

pub returns-clause-made : goal.returns-clause-made
returns-clause-made c = λ other.
    slots_after_write c.in_ok-try_clone.field-0 other None c.args.slots.now.entries c.insert.new.self.entries
    (c.in_ok-insert.ensures.updates.0 other)
    ∙ ap (λ (id : List ℕ). bytes_eq id other || has_slot other c.args.slots.now.entries) c.in_ok-try_clone.ensures

pub returns-clause-same : goal.returns-clause-same
returns-clause-same c =
    let none : lookup (is_at (id_cmp c.in_ok-try_clone.field-0)) c.args.slots.now.entries ≡ None =
    ap (λ (id : List ℕ). lookup (is_at (id_cmp id)) c.args.slots.now.entries) c.in_ok-try_clone.ensures
    ∙ no_slot c.args.id.now c.args.slots.now.entries
    (sym (lookup-has_slot c.args.id.now c.args.slots.now.entries) ∙ sym c.contains_key.ensures ∙ c.if-contains_key.false) in
    ap slot_entries c.in_ok-insert.ensures.entries ∙ slot_entries-made c.in_ok-try_clone.field-0 c.args.slots.now.entries none
