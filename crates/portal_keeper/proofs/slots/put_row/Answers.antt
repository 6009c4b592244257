use Rattle.std.proofs.Common.{Some, ap, ◌∙◌}
use Rattle.portal_keeper.specs.Slots.{slot_rows}
use Rattle.portal_keeper.proofs.SlotLemmas.{slot_rows-written}
use Rattle.portal_keeper.proofs.slots.put_row.Goals as goal

pub returns-in-Ok-clause-ok : goal.returns-in-Ok-clause-ok
returns-in-Ok-clause-ok c =
    ap slot_rows c.in-Ok.ensures.entries
    ∙ slot_rows-written (record { kind = c.args.row.kind; key = c.args.row.key }) (Some c.args.row.body)
    c.args.slots.now.entries c.in-Ok.ensures.was_ordered
