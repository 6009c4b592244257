use Rattle.std.proofs.Common.{◌∙◌, ap, rules}
use Rattle.std.specs.Ordering.{is_lt, is_le}
use Rattle.std.proofs.lemmas.List.Sorted.{IsPartitionPoint-from_clause}
use Rattle.dcat_map.specs.Terms.{text_cmp}
use Rattle.dcat_map.specs.Graphs.{about}
use Rattle.dcat_map.proofs.Ranges.{triples_about}
use Rattle.dcat_map.proofs.subject.Subject.about.Goals as goal

pub returns : goal.returns
returns c =
    let p = c.args.predicate.now in
    let subject = c.self.inside in
    let triples = subject.triples.now in
    let rest = c.split_at.result.1.now in
    c.split_at-2.ensures.front
    ∙ triples_about subject.node.now p subject.graph.now triples rest c.partition_point-start.result
    c.partition_point-end.result c.self.invariant.1 c.self.invariant.0 c.split_at.ensures.back
    c.partition_point-start.ensures.bound c.partition_point-end.ensures.bound
    (λ parted. IsPartitionPoint-from_clause (λ t. is_lt (text_cmp t.predicate p)) triples c.partition_point-start.result
    c.partition_point-start.ensures.partitioned parted (λ a r f called. search rules))
    (λ parted. IsPartitionPoint-from_clause (λ t. is_le (text_cmp t.predicate p)) rest c.partition_point-end.result
    c.partition_point-end.ensures.partitioned parted (λ a r f called. search rules))
    ∙ ap (λ seen. about seen.0 seen.1 p) c.self.view_is
