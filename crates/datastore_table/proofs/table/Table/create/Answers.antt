use Rattle.std.proofs.Common.{◌∙◌, ap, sym}
use Rattle.std.specs.Arc.{arc_value}
use Rattle.datastore_table.specs.Index.{column_lists_of}
use Rattle.datastore_table.proofs.KeptLemmas.{empty-table}
use Rattle.datastore_table.proofs.table.Table.create.Goals as goal

pub invariant_of-result : goal.invariant_of-result
invariant_of-result c = record {
  table = empty-table (arc_value c.in-Ok.schema) c.in_ok-store.store.rows.items
      (c.in_ok-store.ensures.rows ∙ c.new.ensures.items);
  sound = c.in_ok-store.ensures.sound;
  column_lists = c.in_ok-store.ensures.column_lists ∙ ap column_lists_of (sym c.in-Ok.ensures.ok);
}
