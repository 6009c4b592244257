use Rattle.std.proofs.Common.{◌∙◌, ap, ap₂, ◌&&◌, not}
use Rattle.std.specs.List.{list_any}
use Rattle.packages.specs.Tags.{text_set}
use Rattle.search_index.specs.Items.{has_term}
use Rattle.search_index.proofs.DemandLemmas.{any_of_same}
use Rattle.search_index.proofs.demands.Demands.sort.Goals as goal

pub returns-clause-same : goal.returns-clause-same
returns-clause-same c = λ terms.
    ap₂ (λ a b. a && b) (c.sort_tests.ensures terms)
    (ap₂ (λ a b. not a && not b)
    (ap (list_any (has_term terms)) c.sort_and_dedup.ensures.set
    ∙ any_of_same (has_term terms) (text_set c.args.self.now.excluded_terms.items)
    c.args.self.now.excluded_terms.items (c.a_set_has_its_texts.ensures.same c.args.self.now.excluded_terms.items))
    (c.sort_excluded.ensures terms))
