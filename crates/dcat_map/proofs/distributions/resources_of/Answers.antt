use Rattle.std.proofs.Common.{subst, ap, ◌∙◌, take, rules}
use Rattle.std.specs.Ordering.{is_lt}
use Rattle.std.specs.List.Sorted.{IsPermutation, IsSortedBy}
use Rattle.std.proofs.lemmas.List.Sorted.{answers_always, ranks_by}
use Rattle.dcat_map.specs.Graphs.{about}
use Rattle.dcat_map.specs.Vocabulary.{dcat_distribution}
use Rattle.dcat_map.specs.Distributions.{distribution_cmp, distributions_in, resources_in}
use Rattle.dcat_map.proofs.DistributionLemmas.{distribution_cmp_total, same_distribution}
use Rattle.dcat_map.proofs.InOrder.{in_order-sort}
use Rattle.dcat_map.proofs.distributions.resources_of.Goals as goal

pub returns : goal.returns
unfolding resources_in
returns c =
    let after = c.sort_unstable_by.new.self.items in
    let sorted : IsSortedBy (λ x y. is_lt (distribution_cmp x y)) after =
    c.sort_unstable_by.ensures.sorted (λ x y. is_lt (distribution_cmp x y)) (ranks_by distribution_cmp_total (λ x. x))
    (answers_always _ _ _ (λ f a r g called. search rules)) in
    let g = c.args.dataset.now.0 in
    let all = distributions_in g (about g c.args.dataset.now.1 dcat_distribution) in
    let moved : IsPermutation all after =
    subst (λ xs. IsPermutation xs after)
    (c.in_ok-distributions.ensures ∙ ap (λ ts. distributions_in c.graph.result.now ts) c.about-triples.ensures
    ∙ ap (λ h. distributions_in h (about g c.args.dataset.now.1 dcat_distribution)) c.graph.ensures)
    c.sort_unstable_by.ensures.permutation in
    c.from.ensures ∙ c.truncate.ensures.items
    ∙ ap (take 200) (in_order-sort distribution_cmp distribution_cmp_total same_distribution all after moved sorted)
