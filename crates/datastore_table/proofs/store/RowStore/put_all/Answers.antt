use Rattle.std.proofs.Common.{◌≡◌, ◌∙◌, ◌∷◌, List, ap, arith, length, sym}
use Rattle.portal_base.specs.Ordered.{upserted}
use Rattle.datastore_table.specs.declared.row.Row.{Row}
use Rattle.datastore_table.specs.Rows.{row_cmp, rows_after}
use Rattle.datastore_table.proofs.store.RowStore.put_all.Goals as goal

pub loop-row-preserved : goal.loop-row-preserved
loop-row-preserved c =
    let l = c.loop-row in
    let row = c.in-Some.row in
    let left = c.next.new.self.rest.items in
    let step : l.row-iterator.rest.items ≡ row ∷ left = c.in-Some.ensures.steps.0 in
    let put : c.put.new.self.rows.items ≡ upserted row_cmp row l.self.rows.items = c.put.ensures.rows in
    record {
      placed = l.invariant.placed ∙ ap (λ (ws : List Row). rows_after ws l.self.rows.items) step
          ∙ ap (λ (rs : List Row). rows_after left rs) (sym put);
      ascending = c.put.ensures.ascending;
      sound = c.put.ensures.sound;
      column_lists = c.put.ensures.column_lists ∙ l.invariant.column_lists;
      room = omega (arith, l.invariant.room, ap length step, c.put.ensures.ready);
    }
