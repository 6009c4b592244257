use Rattle.std.proofs.Common.{rules}
use Rattle.std.specs.Ordering.{is_lt}
use Rattle.std.proofs.lemmas.List.Sorted.{IsPartitionPoint-from_clause}
use Rattle.datastore_table.proofs.SearchLemmas.{below_first, index_is}
use Rattle.datastore_table.proofs.rows.index_in.Goals as goal

pub returns-clause-index : goal.returns-clause-index
returns-clause-index g c =
    let cmp = g.T.Ordered.order in
    let x = c.args.item.now in
    let xs = c.args.items.now in
    index_is (λ y. is_lt (cmp y x)) xs x c.partition_point.result c.partition_point.ensures.bound
    (IsPartitionPoint-from_clause (λ y. is_lt (cmp y x)) xs c.partition_point.result
    c.partition_point.ensures.partitioned
    (below_first cmp g.met.T.Ordered.total x xs c.requires) (λ a r f called. search rules))
