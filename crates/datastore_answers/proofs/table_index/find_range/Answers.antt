use Rattle.std.proofs.Common.{arith, rules}
use Rattle.std.specs.Ordering.{is_le, is_lt}
use Rattle.std.proofs.lemmas.List.Sorted.{IsPartitionPoint-from_clause}
use Rattle.datastore_table.proofs.SearchLemmas.{index_is}
use Rattle.datastore_answers.proofs.RangeLemmas.{below_before, places_ordered, to_before, to_dataset}
use Rattle.datastore_answers.proofs.TableLemmas.{at}
use Rattle.datastore_answers.proofs.table_index.find_range.Goals as goal

pub returns-clause-from : goal.returns-clause-from
returns-clause-from c =
    let ds = c.args.dataset.now in
    let ts = c.args.tables.now in
    index_is (λ t. is_lt (to_dataset ds t)) ts (at (record { dataset = ds; number = 0 })) c.partition_point-from.result
    c.partition_point-from.ensures.bound
    (IsPartitionPoint-from_clause (λ t. is_lt (to_dataset ds t)) ts c.partition_point-from.result
    c.partition_point-from.ensures.partitioned (below_before ds ts c.requires) (λ a r f called. search rules))

pub returns-clause-to : goal.returns-clause-to
returns-clause-to c =
    let ds = c.args.dataset.now in
    let ts = c.args.tables.now in
    index_is (λ t. is_le (to_dataset ds t)) ts (at (record { dataset = ds; number = 0 })) c.partition_point-to.result
    c.partition_point-to.ensures.bound
    (IsPartitionPoint-from_clause (λ t. is_le (to_dataset ds t)) ts c.partition_point-to.result
    c.partition_point-to.ensures.partitioned (to_before ds ts c.requires) (λ a r f called. search rules))

pub returns-clause-ordered : goal.returns-clause-ordered
returns-clause-ordered c =
    omega (arith, returns-clause-from c, returns-clause-to c, places_ordered c.args.dataset.now c.args.tables.now)
