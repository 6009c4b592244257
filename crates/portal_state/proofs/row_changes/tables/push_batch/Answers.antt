-- The rows of a batch that can be committed meet the table's schema.
use Rattle.std.proofs.Common.{List, All, subst, sym}
use Rattle.table_schema.specs.Printed.{IsValue}
use Rattle.datastore_table.specs.Rows.{row_cmp}
use Rattle.datastore_table.specs.declared.row.Row.{Row}
use Rattle.portal_base.specs.Ordered.{IsAscending}
use Rattle.portal_state.proofs.TableRows.{written_values}
use Rattle.portal_state.proofs.row_changes.tables.push_batch.Goals as goal

pub push_rows-requires-clause-values : goal.push_rows-requires-clause-values
push_rows-requires-clause-values c =
    subst (λ (rows : List Row). All (λ (row : Row). All IsValue row.cells) rows) (sym c.changed.ensures.rows)
    (written_values c.args.table.now.table.schema c.args.batch.now.work.changed c.args.table.now.table.rows
    c.args.batch.now.work.next_id
    (subst (λ (rows : List Row). IsAscending row_cmp rows) c.changed.ensures.rows c.changed.ensures.ascending)
    c.requires.whole)
