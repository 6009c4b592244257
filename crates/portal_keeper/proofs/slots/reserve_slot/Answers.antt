use Rattle.std.proofs.Common.{◌≡◌, None, sym, ap, ◌∙◌}
use Rattle.std.specs.BTreeMap.{is_at}
use Rattle.std.specs.Map.{lookup}
use Rattle.portal_keeper.specs.Slots.{slot_cmp, slot_rows}
use Rattle.portal_keeper.proofs.SlotLemmas.{slot_rows-made, none_from_absent}
use Rattle.portal_keeper.proofs.slots.reserve_slot.Goals as goal

pub returns-clause-rows : goal.returns-clause-rows
returns-clause-rows c =
    let none : lookup (is_at (slot_cmp c.args.key.now)) c.args.slots.now.entries ≡ None =
    none_from_absent _ (sym c.contains_key.ensures ∙ c.if-contains_key.false) in
    let made : lookup (is_at (slot_cmp c.in_ok-try_clone.field-0)) c.args.slots.now.entries ≡ None =
    ap (λ key. lookup (is_at (slot_cmp key)) c.args.slots.now.entries) c.in_ok-try_clone.ensures ∙ none in
    ap slot_rows c.in_ok-insert.ensures.entries ∙ slot_rows-made c.in_ok-try_clone.field-0 _ made
