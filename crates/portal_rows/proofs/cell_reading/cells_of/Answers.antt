use Rattle.std.proofs.Common.{arith, sym}
use Rattle.portal_rows.proofs.CellLemmas.{cells_reading-counts}
use Rattle.portal_rows.proofs.cell_reading.cells_of.Goals as goal

pub returns-then-fields-values : goal.returns-then-fields-values
returns-then-fields-values c =
    sym (cells_reading-counts c.args.fields.now c.args.values.now (λ e. omega arith))
