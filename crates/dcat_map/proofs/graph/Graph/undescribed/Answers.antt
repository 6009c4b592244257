use Rattle.std.proofs.Common.{sym, ap, subst, ◌∙◌}
use Rattle.std.proofs.lemmas.List.Elements.{All-nil}
use Rattle.std.specs.List.Sorted.{IsStrictlySortedBy}
use Rattle.dcat_map.specs.Graphs.{graph_of}
use Rattle.dcat_map.specs.Distributions.{AreDescribed}
use Rattle.dcat_map.specs.Sets.{ascending_set}
use Rattle.dcat_map.specs.Terms.{triple_cmp, triple_cmp_total}
use Rattle.dcat_map.proofs.SetLemmas.{IsStrictlySortedBy-ascending_set}
use Rattle.dcat_map.proofs.graph.Graph.undescribed.Goals as goal

pub invariant_of-result : goal.invariant_of-result
invariant_of-result c = (
  subst (IsStrictlySortedBy triple_cmp) (sym c.make_triple_set.ensures)
      (IsStrictlySortedBy-ascending_set triple_cmp triple_cmp_total _),
  subst (AreDescribed c.make_triple_set.new.triples.items) (sym c.new.ensures.items) (All-nil _),
)

pub returns : goal.returns
unfolding graph_of
returns c = c.make_triple_set.ensures ∙ ap (ascending_set triple_cmp) c.in_ok-triples.ensures
