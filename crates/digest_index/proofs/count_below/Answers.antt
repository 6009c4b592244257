use Rattle.std.proofs.Common.{ltb, rules}
use Rattle.std.proofs.lemmas.List.Sorted.{IsPartitionPoint-from_clause, IsPartitionedBy-ltb}
use Rattle.digest_index.proofs.count_below.Goals as goal

pub returns-clause-point : goal.returns-clause-point
returns-clause-point g c =
    IsPartitionPoint-from_clause (λ e. ltb e.digest c.args.digest) _ _ c.partition_point.ensures.partitioned
    (IsPartitionedBy-ltb (λ e. e.digest) _ c.args.digest c.requires) (λ a r q k. search rules)
