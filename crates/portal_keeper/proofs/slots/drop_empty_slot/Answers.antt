use Rattle.std.proofs.Common.{◌≡◌, Some, None, sym, ap, ◌∙◌}
use Rattle.std.specs.Option.{option_copied}
use Rattle.std.specs.BTreeMap.{is_at}
use Rattle.std.specs.Map.{lookup}
use Rattle.portal_keeper.specs.Slots.{slot_cmp, slot_rows}
use Rattle.portal_keeper.proofs.SlotLemmas.{slot_rows-dropped}
use Rattle.portal_keeper.proofs.slots.drop_empty_slot.Goals as goal

pub returns-in-Some-None : goal.returns-in-Some-None
returns-in-Some-None c =
    let empty : lookup (is_at (slot_cmp c.args.key.now)) c.args.slots.now.entries ≡ Some None =
    sym c.get.ensures.value ∙ ap option_copied c.in-Some-None.is ∙ ap Some c.in-Some-None.field-0-is in
    ap slot_rows c.remove.ensures.entries ∙ slot_rows-dropped _ c.args.slots.now.entries empty
