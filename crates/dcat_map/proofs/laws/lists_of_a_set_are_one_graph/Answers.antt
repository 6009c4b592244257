use Rattle.dcat_map.specs.Graphs.{graph_of}
use Rattle.dcat_map.specs.Terms.{triple_cmp, triple_cmp_total}
use Rattle.dcat_map.proofs.Orders.{same_triple}
use Rattle.dcat_map.proofs.SetLemmas.{same_set}
use Rattle.dcat_map.proofs.laws.lists_of_a_set_are_one_graph.Goals as goal

pub returns : goal.returns
unfolding graph_of
returns c = same_set triple_cmp triple_cmp_total same_triple
