use Rattle.std.proofs.Common.{ap}
use Rattle.dcat_map.specs.Graphs.{graph_of}
use Rattle.dcat_map.specs.Records.{description_of, description_in}
use Rattle.dcat_map.specs.Terms.{triple_cmp, triple_cmp_total}
use Rattle.dcat_map.proofs.Orders.{same_triple}
use Rattle.dcat_map.proofs.SetLemmas.{same_set}
use Rattle.dcat_map.proofs.laws.a_record_is_of_the_set.Goals as goal

pub returns : goal.returns
unfolding graph_of description_of
returns c =
    λ g h iri same. ap (λ set. description_in set iri) (same_set triple_cmp triple_cmp_total same_triple g h same)
