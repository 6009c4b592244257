use Rattle.std.proofs.Common.{rules}
use Rattle.std.proofs.lemmas.List.Sorted.{IsPartitionPoint-from_clause}
use Rattle.search_index.proofs.TermLemmas.{before_first, is_before}
use Rattle.search_index.proofs.term_set.first_from.Goals as goal

pub returns : goal.returns
returns c =
    IsPartitionPoint-from_clause (is_before c.args.term.now) c.args.terms.now c.partition_point.result
    c.partition_point.ensures.partitioned (before_first c.args.term.now c.args.terms.now c.requires)
    (λ a r f called. search rules)
