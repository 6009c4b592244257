use Rattle.std.proofs.Common.{rules}
use Rattle.std.specs.Ordering.{is_lt}
use Rattle.std.proofs.lemmas.List.Sorted.{IsPartitionPoint-from_clause}
use Rattle.datastore_table.proofs.SearchLemmas.{below_first, index_is}
use Rattle.datastore_answers.specs.Order.{table_cmp, table_cmp_total}
use Rattle.datastore_answers.proofs.TableLemmas.{at}
use Rattle.datastore_answers.proofs.table_index.lower_bound.Goals as goal

pub returns-clause-index : goal.returns-clause-index
returns-clause-index c =
    let x = at (record { dataset = c.args.dataset.now; number = c.args.number }) in
    let ts = c.args.tables.now in
    index_is (λ t. is_lt (table_cmp t x)) ts x c.partition_point.result c.partition_point.ensures.bound
    (IsPartitionPoint-from_clause (λ t. is_lt (table_cmp t x)) ts c.partition_point.result
    c.partition_point.ensures.partitioned
    (below_first table_cmp table_cmp_total x ts c.requires) (λ a r f called. search rules))
