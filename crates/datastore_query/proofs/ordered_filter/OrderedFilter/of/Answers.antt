use Rattle.std.proofs.Common.{List, subst, ◌∙◌}
use Rattle.table_schema.specs.declared.cell.Cell.{Cell}
use Rattle.datastore_query.specs.OrderedValues.{AreOrdered}
use Rattle.datastore_query.proofs.ordered_filter.OrderedFilter.of.Goals as goal

pub invariant_of-result : goal.invariant_of-result
invariant_of-result c =
    subst (λ (cells : List Cell). AreOrdered cells c.in_order-values.result.items)
    (c.into_vec.ensures ∙ c.in_ok-copies.ensures) c.in_order-values.ensures
