use Rattle.facets.specs.Facets.{texts_in}
use Rattle.facets.proofs.LawLemmas.{facets-ascend, facets-exact}
use Rattle.facets.proofs.laws.facets_are_the_values_with_their_counts.Goals as goal

pub returns : goal.returns
returns c = record {
  exact = λ field datasets value count.
      facets-exact c.a_set_has_its_texts.ensures.same (texts_in field) datasets value count;
  ascends = λ field datasets. facets-ascend c.a_set_has_its_texts.ensures.ascends (texts_in field) datasets;
}
