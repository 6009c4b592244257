use Rattle.std.proofs.Common.{◌∙◌, rules}
use Rattle.std.specs.List.Sorted.{IsSorted}
use Rattle.std.specs.Ordering.{eq_by_cmp, is_lt}
use Rattle.std.proofs.lemmas.Fn.{dedup_same}
use Rattle.std.proofs.lemmas.List.Sorted.{answers_always, ranks_by}
use Rattle.dcat_map.specs.Terms.{term_cmp, term_cmp_total}
use Rattle.dcat_map.proofs.Orders.{same_term}
use Rattle.dcat_map.proofs.SetLemmas.{ascending_set-dedup}
use Rattle.dcat_map.proofs.sets.make_term_set.Goals as goal

pub returns : goal.returns
returns c =
    let sorted : IsSorted term_cmp c.sort_unstable_by.new.self.items =
    c.sort_unstable_by.ensures.sorted (λ x y. is_lt (term_cmp x y)) (ranks_by term_cmp_total (λ x. x))
    (answers_always _ _ _ (λ f a r g called. search rules)) in
    dedup_same _ (eq_by_cmp term_cmp) _ (λ x y b f' x' y' called. search rules) c.sort_unstable_by.new.self.items
    c.dedup_by.new.self.items c.dedup_by.ensures.filtered
    ∙ ascending_set-dedup term_cmp term_cmp_total same_term c.args.terms.now.items c.sort_unstable_by.new.self.items
    c.sort_unstable_by.ensures.permutation sorted
