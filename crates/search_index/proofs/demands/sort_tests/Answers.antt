use Rattle.std.proofs.Common.{◌∙◌, ap}
use Rattle.std.proofs.lemmas.List.Filters.{dedup_is}
use Rattle.search_index.specs.Items.{passes, passes_all}
use Rattle.search_index.proofs.DemandLemmas.{all_sorted, same_test_exact}
use Rattle.search_index.proofs.demands.sort_tests.Goals as goal

pub returns : goal.returns
returns c = λ terms.
    ap (passes_all terms) (dedup_is _ _ _ c.dedup.ensures.filtered)
    ∙ all_sorted _ (passes terms) (λ x y e. ap (passes terms) (same_test_exact x y e)) c.args.tests.now.items c.sort_unstable.new.self.items
    c.sort_unstable.ensures.permutation
