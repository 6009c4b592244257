use Rattle.std.proofs.Common.{◌≡◌, ◌++◌, sym, ap, subst, ◌∙◌}
use Rattle.portal_base.specs.Ordered.{ascending}
use Rattle.portal_keeper.specs.Rows.{row_cmp, AreInOrder}
use Rattle.portal_keeper.specs.Slots.{slot_rows}
use Rattle.portal_keeper.proofs.RowLemmas.{in_order-ascending}
use Rattle.portal_keeper.proofs.SlotLemmas.{and_no_slots}
use Rattle.portal_keeper.proofs.memory.MemoryKeeper.new.Goals as goal

pub invariant_of-result : goal.invariant_of-result
invariant_of-result c =
    let whole : c.sort.new.items.items ++ slot_rows c.new.result.entries ≡ ascending row_cmp c.args.rows =
    and_no_slots c.sort.new.items.items _ c.new.ensures.empty ∙ c.sort.ensures
    ∙ ap (ascending row_cmp) c.into_vec-given.ensures in
    subst AreInOrder (sym whole) (in_order-ascending c.args.rows c.requires)
