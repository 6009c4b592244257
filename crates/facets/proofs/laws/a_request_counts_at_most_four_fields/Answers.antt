use Rattle.std.specs.Prelude.{codes, true}
use Rattle.portal_calls.specs.BodyValues.{texts_or_none, truth_or}
use Rattle.facets.proofs.FieldLemmas.{shown-at-most-four}
use Rattle.facets.proofs.laws.a_request_counts_at_most_four_fields.Goals as goal

pub returns : goal.returns
returns c = λ body.
    shown-at-most-four c.a_set_has_its_texts.ensures.ascends (truth_or true (codes "facet") body)
    (texts_or_none (codes "facet.field") body)
