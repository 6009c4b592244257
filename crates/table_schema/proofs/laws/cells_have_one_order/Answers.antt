use Rattle.table_schema.specs.Order.{cell_cmp_total}
use Rattle.table_schema.proofs.laws.cells_have_one_order.Goals as goal

pub returns : goal.returns
returns c = cell_cmp_total
