use Rattle.std.proofs.Common.{rules, []}
use Rattle.std.specs.Ordering.{is_lt}
use Rattle.std.proofs.lemmas.List.Sorted.{IsPartitionPoint-from_clause}
use Rattle.datastore_table.specs.Put.{written_row}
use Rattle.datastore_table.specs.Rows.{row_cmp, row_cmp_total}
use Rattle.datastore_table.proofs.SearchLemmas.{below_first, index_is}
use Rattle.datastore_table.proofs.rows.index_of_id.Goals as goal

pub returns : goal.returns
returns c =
    let x = written_row c.args.id [] in
    let xs = c.args.rows.now in
    index_is (λ y. is_lt (row_cmp y x)) xs x c.partition_point.result c.partition_point.ensures.bound
    (IsPartitionPoint-from_clause (λ y. is_lt (row_cmp y x)) xs c.partition_point.result
    c.partition_point.ensures.partitioned
    (below_first row_cmp row_cmp_total x xs c.requires) (λ a r f called. search rules))
