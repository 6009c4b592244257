use Rattle.std.proofs.Common.{◌≡◌, ◌∙◌, List, length, ap, arith, subst, subst₂, sym}
use Rattle.std.specs.Arc.{arc_value}
use Rattle.table_schema.specs.Field.{SchemaValue}
use Rattle.datastore_table.specs.declared.row.Row.{Row}
use Rattle.datastore_table.specs.Batch.{worked_on}
use Rattle.datastore_table.specs.Meets.{IsTable}
use Rattle.datastore_table.specs.Rows.{rows_after}
use Rattle.datastore_table.specs.Table.{TableValue}
use Rattle.datastore_table.proofs.KeptLemmas.{put_records-table}
use Rattle.datastore_table.proofs.table.Table.prepare.Goals as goal

pub returns-clause-ready : goal.returns-clause-ready
returns-clause-ready c =
    let work = c.in_ok-work.work in
    let table = c.args.self.now in
    let was : IsTable table.schema table.rows table.next_id =
    subst (λ (t : TableValue). IsTable t.schema t.rows t.next_id) c.self.view_is c.self.invariant.table in
    let after : IsTable table.schema (rows_after work.changed table.rows) work.next_id =
    put_records-table c.args.method c.as_slice.result.now table (worked_on table.rows work) was
    c.in_ok-work.ensures.work in
    let schema : arc_value c.self.inside.schema ≡ table.schema = ap (λ (t : TableValue). t.schema) c.self.view_is in
    let rows : c.reserve.new.self.rows.items ≡ table.rows =
    c.reserve.ensures.rows ∙ ap (λ (t : TableValue). t.rows) c.self.view_is in
    record {
      room = omega (arith, ap length c.changed.ensures.value, c.in_ok-reserve.ensures.ready);
      whole = subst₂ (λ (s : SchemaValue) (r : List Row). IsTable s (rows_after work.changed r) work.next_id)
          (sym schema)
          (sym rows) after;
    }
