use Rattle.std.proofs.Common.{◌∙◌, ap, sym}
use Rattle.std.specs.Arc.{arc_value}
use Rattle.datastore_table.specs.Rows.{row_at}
use Rattle.datastore_table.proofs.KeptLemmas.{found-values}
use Rattle.datastore_table.proofs.table.Table.get.Goals as goal

pub returns-in-Some-clause-values : goal.returns-in-Some-clause-values
returns-in-Some-clause-values c =
    found-values (arc_value c.self.inside.schema) c.self.inside.store.rows.items c.args.id c.in-Some.row.now
    c.self.invariant.table.meets
    (ap (row_at c.args.id) (sym c.as_slice.ensures.value) ∙ sym c.in-Some.ensures)
