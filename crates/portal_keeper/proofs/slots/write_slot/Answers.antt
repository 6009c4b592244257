use Rattle.std.proofs.Common.{ap, ◌∙◌}
use Rattle.portal_keeper.specs.Slots.{slot_rows}
use Rattle.portal_keeper.proofs.SlotLemmas.{slot_rows-written, from_ok}
use Rattle.portal_keeper.proofs.slots.write_slot.Goals as goal

pub returns-clause-rows : goal.returns-clause-rows
returns-clause-rows c =
    ap slot_rows
    (from_ok c.insert-written.result c.unwrap.result c.unwrap.ensures c.insert-written.ensures.entries)
    ∙ slot_rows-written c.args.write.key c.args.write.body c.args.slots.now.entries c.insert-written.ensures.was_ordered
