use Rattle.std.proofs.Common.{◌∙◌, ap}
use Rattle.std.specs.List.{list_any}
use Rattle.std.proofs.lemmas.List.Filters.{dedup_is}
use Rattle.search_index.specs.Items.{passes_all}
use Rattle.search_index.proofs.DemandLemmas.{any_sorted, same_tests_exact}
use Rattle.search_index.proofs.demands.sort_excluded.Goals as goal

pub returns : goal.returns
returns c = λ terms.
    ap (list_any (λ tests. passes_all terms tests.items)) (dedup_is _ _ _ c.dedup.ensures.filtered)
    ∙ any_sorted _ (λ tests. passes_all terms tests.items)
    (λ x y e. ap (passes_all terms) (same_tests_exact x.items y.items e)) c.args.excluded.now.items
    c.sort_unstable.new.self.items c.sort_unstable.ensures.permutation
