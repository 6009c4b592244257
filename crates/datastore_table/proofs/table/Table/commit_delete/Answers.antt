use Rattle.std.proofs.Common.{◌≡◌, ◌∙◌, List, ap, ap₂, subst, sym}
use Rattle.std.specs.Arc.{arc_value}
use Rattle.table_schema.specs.Field.{SchemaValue}
use Rattle.datastore_table.specs.declared.row.Row.{Row}
use Rattle.datastore_table.specs.Batch.{RemovalValue, cut_rows}
use Rattle.datastore_table.specs.Meets.{IsTable}
use Rattle.datastore_table.specs.Table.{TableValue}
use Rattle.datastore_table.proofs.KeptLemmas.{cut_rows-table}
use Rattle.datastore_table.proofs.table.Table.commit_delete.Goals as goal

pub invariant_of-self : goal.invariant_of-self
invariant_of-self c =
    let table = c.args.self.now in
    let ids = c.args.removal.ids in
    let schema : arc_value c.self.inside.schema ≡ table.schema = ap (λ (t : TableValue). t.schema) c.self.view_is in
    let next : c.self.inside.next_id ≡ table.next_id = ap (λ (t : TableValue). t.next_id) c.self.view_is in
    let whole : IsTable table.schema table.rows table.next_id =
    subst (λ (t : TableValue). IsTable t.schema t.rows t.next_id) c.self.view_is c.self.invariant.table in
    let taken : c.removal.inside.ids ≡ ids = ap (λ (r : RemovalValue). r.ids) c.removal.view_is in
    let rows : c.delete.new.self.rows.items ≡ cut_rows ids table.rows =
    c.delete.ensures.rows ∙ ap₂ cut_rows taken (ap (λ (t : TableValue). t.rows) c.self.view_is) in
    record {
      table = subst (λ (s : SchemaValue). IsTable s c.delete.new.self.rows.items c.self.inside.next_id) (sym schema)
          (subst (λ n. IsTable table.schema c.delete.new.self.rows.items n) (sym next)
          (subst (λ (r : List Row). IsTable table.schema r table.next_id) (sym rows)
          (cut_rows-table ids table whole c.requires)));
      sound = c.delete.ensures.sound;
      column_lists = c.delete.ensures.column_lists ∙ c.self.invariant.column_lists;
    }
