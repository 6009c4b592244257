use Rattle.std.proofs.Common.{rules, ap, ◌∙◌, nat_eq}
use Rattle.std.specs.Cmp.Lexicographic.{pointwise}
use Rattle.std.specs.Ordering.{is_lt}
use Rattle.std.proofs.lemmas.Fn.{dedup_same}
use Rattle.std.proofs.lemmas.List.Sorted.{answers_always, ranks_by}
use Rattle.harvest_sources.specs.Listings.{first_items, item_cmp}
use Rattle.harvest_sources.proofs.ListLemmas.{first_items-sorted, item_cmp_total}
use Rattle.harvest_sources.proofs.list.first_items.Goals as goal

pub returns : goal.returns
returns c =
    let deduped = dedup_same _ (λ x y. pointwise nat_eq x.iri y.iri) _ (λ x y b f' x' y' k. (search rules, search rules, search rules, search rules)) _ _ c.dedup_by.ensures.filtered in
    let sorted = c.in_ok-sort_by.ensures.sorted (λ x y. is_lt (item_cmp x y)) (ranks_by item_cmp_total (λ x. x))
    (answers_always _ _ _ (λ f a r q called. search rules)) in
    let stable = c.sort_by.ensures.stable (λ x y. is_lt (item_cmp x y)) (ranks_by item_cmp_total (λ x. x))
    (answers_always _ _ _ (λ f a r q called. search rules)) in
    deduped ∙ first_items-sorted _ _ sorted stable ∙ ap first_items c.into_vec-items.ensures
