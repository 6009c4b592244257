use Rattle.std.proofs.Common.{◌∙◌, rules}
use Rattle.std.specs.List.Sorted.{IsSortedBy}
use Rattle.std.specs.Ordering.{is_lt}
use Rattle.std.proofs.lemmas.List.Sorted.{answers_always, ranks_by}
use Rattle.facets.specs.Counts.{facet_cmp, facet_cmp_total}
use Rattle.facets.proofs.TallyLemmas.{tallied-sorted}
use Rattle.facets.proofs.tally.tally.Goals as goal

pub returns : goal.returns
returns c =
    let falling : IsSortedBy (λ x y. is_lt (facet_cmp x y)) c.sort_unstable_by.new.self.items =
    c.sort_unstable_by.ensures.sorted (λ x y. is_lt (facet_cmp x y)) (ranks_by facet_cmp_total (λ x. x))
    (answers_always _ _ _ (λ f a r q called. search rules)) in
    c.from.ensures
    ∙ tallied-sorted c.a_set_has_its_texts.ensures.ascends c.a_set_has_its_texts.ensures.same c.args.texts.items
    c.sort_unstable.new.self.items c.in_ok-counts.counts.items c.sort_unstable_by.new.self.items
    c.sort_unstable.ensures.permutation c.sort_unstable.ensures.sorted c.in_ok-counts.ensures
    c.sort_unstable_by.ensures.permutation falling
