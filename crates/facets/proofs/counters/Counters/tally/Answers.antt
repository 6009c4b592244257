use Rattle.std.proofs.Common.{◌≡◌, ◌∙◌, List, ap, subst}
use Rattle.std.specs.Prelude.{IfOk}
use Rattle.facets.specs.Counters.{class_counts, facts_in_classes}
use Rattle.facets.specs.Counts.{Facet}
use Rattle.facets.specs.Facts.{texts_at}
use Rattle.facets.specs.Tally.{tallied}
use Rattle.facets.proofs.TallyLemmas.{tallied-counts}
use Rattle.facets.proofs.counters.Counters.tally.Goals as goal

pub returns : goal.returns
returns c =
    subst (λ (list : List Facet). IfOk c.tally.result (λ counts. counts ≡ list))
    (ap tallied c.in_ok-values.ensures
    ∙ tallied-counts c.a_set_has_its_texts.ensures.ascends c.a_set_has_its_texts.ensures.same (texts_at c.args.field)
    (facts_in_classes c.as_slice.result.now c.args.self.now)
    ∙ ap (λ classes. class_counts classes c.args.field c.args.self.now) c.as_slice.ensures)
    c.tally.ensures
