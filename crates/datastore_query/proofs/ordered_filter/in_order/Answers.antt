use Rattle.std.proofs.Common.{rules}
use Rattle.std.specs.Ordering.{is_lt}
use Rattle.std.proofs.lemmas.Fn.{always_returns_same}
use Rattle.std.proofs.lemmas.List.Sorted.{ranks_by}
use Rattle.table_schema.specs.Order.{cell_cmp, cell_cmp_total}
use Rattle.datastore_query.proofs.ValueLemmas.{ordered_values}
use Rattle.datastore_query.proofs.ordered_filter.in_order.Goals as goal

pub returns : goal.returns
returns c =
    ordered_values c.args.cells.items c.sort_unstable_by.new.self.items c.sort_unstable_by.ensures.permutation
    (c.sort_unstable_by.ensures.sorted (λ x y. is_lt (cell_cmp x y)) (ranks_by cell_cmp_total (λ x. x))
    (always_returns_same _ _ _ (λ a r q called. search rules)))
