use Rattle.std.proofs.Common.{◌≡◌, ◌∙◌, List, ap, subst}
use Rattle.std.specs.Prelude.{IfOk}
use Rattle.facets.specs.Counts.{Facet}
use Rattle.packages.specs.Shelf.{datasets_at}
use Rattle.facets.specs.Facets.{facet_counts, texts_in}
use Rattle.facets.specs.Tally.{tallied}
use Rattle.facets.proofs.TallyLemmas.{tallied-counts}
use Rattle.facets.proofs.facets.facets_of.Goals as goal

pub returns-clause-counts : goal.returns-clause-counts
returns-clause-counts g c =
    subst (λ (list : List Facet). IfOk c.tally.result (λ counts. counts ≡ list))
    (ap tallied c.in_ok-values.ensures.values
    ∙ tallied-counts c.a_set_has_its_texts.ensures.ascends c.a_set_has_its_texts.ensures.same (texts_in c.args.field)
    (datasets_at c.args.shelf.now c.as_slice.result.now)
    ∙ ap (λ numbers. facet_counts c.args.field (datasets_at c.args.shelf.now numbers)) c.as_slice.ensures)
    c.tally.ensures
