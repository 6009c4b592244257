use Rattle.facets.specs.Facets.{texts_in}
use Rattle.facets.proofs.OrderLemmas.{counts_by-permuted}
use Rattle.facets.proofs.laws.facets_do_not_depend_on_the_order.Goals as goal

pub returns : goal.returns
returns c = λ field datasets others permuted.
    counts_by-permuted c.a_set_has_its_texts.ensures.ascends c.a_set_has_its_texts.ensures.same (texts_in field) datasets
    others permuted
