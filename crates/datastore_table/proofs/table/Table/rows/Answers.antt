use Rattle.std.proofs.Common.{List, All, subst, sym}
use Rattle.std.specs.Arc.{arc_value}
use Rattle.table_schema.specs.Printed.{IsValue}
use Rattle.datastore_table.specs.declared.row.Row.{Row}
use Rattle.datastore_table.proofs.KeptLemmas.{rows-values}
use Rattle.datastore_table.proofs.table.Table.rows.Goals as goal

pub returns-clause-values : goal.returns-clause-values
returns-clause-values c =
    subst (λ (rows : List Row). All (λ row. All IsValue row.cells) rows) (sym c.as_slice.ensures.value)
    (rows-values (arc_value c.self.inside.schema) c.self.inside.store.rows.items c.self.invariant.table.meets)
