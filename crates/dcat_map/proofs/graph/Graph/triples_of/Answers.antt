use Rattle.std.proofs.Common.{sym, ap, subst, ◌∙◌, rules}
use Rattle.std.specs.Ordering.{is_lt, is_le}
use Rattle.std.specs.List.{filter}
use Rattle.std.specs.List.Sorted.{IsStrictlySortedBy}
use Rattle.std.proofs.lemmas.List.Sorted.{IsPartitionPoint-from_clause}
use Rattle.dcat_map.specs.Terms.{term_cmp, triple_cmp}
use Rattle.dcat_map.specs.Graphs.{has_subject}
use Rattle.dcat_map.proofs.Ranges.{triples_of_subject}
use Rattle.dcat_map.proofs.graph.Graph.triples_of.Goals as goal

pub returns-clause-part : goal.returns-clause-part
returns-clause-part c =
    let s = c.args.subject.now in
    let triples = c.as_slice-triples.result.now in
    let rest = c.split_at.result.1.now in
    let sorted : IsStrictlySortedBy triple_cmp triples =
    subst (IsStrictlySortedBy triple_cmp) (sym c.as_slice-triples.ensures.value) c.self.invariant.0 in
    c.split_at-2.ensures.front
    ∙ triples_of_subject s triples rest c.partition_point-start.result c.partition_point-end.result sorted
    c.split_at.ensures.back c.partition_point-start.ensures.bound c.partition_point-end.ensures.bound
    (λ parted. IsPartitionPoint-from_clause (λ t. is_lt (term_cmp t.subject s)) triples c.partition_point-start.result
    c.partition_point-start.ensures.partitioned parted (λ a r f called. search rules))
    (λ parted. IsPartitionPoint-from_clause (λ t. is_le (term_cmp t.subject s)) rest c.partition_point-end.result
    c.partition_point-end.ensures.partitioned parted (λ a r f called. search rules))
    ∙ ap (filter (has_subject s)) (c.as_slice-triples.ensures.value ∙ c.self.view_is)
