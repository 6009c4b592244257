use Rattle.std.proofs.Common.{◌&&◌, sym, ap, ◌∙◌}
use Rattle.std.specs.List.{list_any}
use Rattle.ntriples.specs.declared.term.Triple.{Triple}
use Rattle.dcat_map.specs.Graphs.{graph_of, is_described, is_typed}
use Rattle.dcat_map.specs.Terms.{triple_cmp, triple_cmp_total, is_iri}
use Rattle.dcat_map.specs.Vocabulary.{dcat_dataset_class}
use Rattle.dcat_map.proofs.Orders.{same_triple}
use Rattle.dcat_map.proofs.RecordLemmas.{list_any-ascending_set}
use Rattle.dcat_map.proofs.SetLemmas.{same_set}
use Rattle.dcat_map.proofs.laws.a_described_iri_is_of_the_set.Goals as goal

pub returns-clause-lists : goal.returns-clause-lists
unfolding is_described
returns-clause-lists c = λ g h iri same.
    let test = λ (t : Triple). is_iri iri t.subject && is_typed dcat_dataset_class t in
    sym (list_any-ascending_set triple_cmp same_triple test g)
    ∙ ap (list_any test) (same_set triple_cmp triple_cmp_total same_triple g h same)
    ∙ list_any-ascending_set triple_cmp same_triple test h

pub returns-clause-graph : goal.returns-clause-graph
unfolding is_described graph_of
returns-clause-graph c =
    λ ts iri. list_any-ascending_set triple_cmp same_triple
    (λ t. is_iri iri t.subject && is_typed dcat_dataset_class t) ts
