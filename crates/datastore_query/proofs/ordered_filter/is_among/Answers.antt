use Rattle.std.proofs.Common.{rules}
use Rattle.std.proofs.lemmas.Fn.{always_returns_same}
use Rattle.table_schema.specs.Order.{cell_cmp}
use Rattle.datastore_query.proofs.ValueLemmas.{none_where_not_found}
use Rattle.datastore_query.proofs.ordered_filter.is_among.Goals as goal

pub returns-in-Err : goal.returns-in-Err
returns-in-Err c =
    none_where_not_found c.args.values.now c.args.cell.now c.binary_search_by-found.result _ c.in-Err.is c.requires
    (c.binary_search_by-found.ensures.position (λ value. cell_cmp value c.args.cell.now)
    (always_returns_same _ _ _ (λ a r q called. search rules)))
