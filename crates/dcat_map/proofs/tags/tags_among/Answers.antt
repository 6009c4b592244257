use Rattle.std.proofs.Common.{subst, ap, ◌∙◌, take}
use Rattle.std.specs.Cmp.Lexicographic.{nat_list_cmp_total, nat_list_eq_equiv, pointwise, texts_ties}
use Rattle.std.specs.Prelude.{nat_eq}
use Rattle.std.specs.List.{filter_map}
use Rattle.std.specs.List.Sorted.{IsPermutation}
use Rattle.std.proofs.lemmas.List.Filters.{dedup_is}
use Rattle.ntriples.specs.declared.term.Triple.{Triple}
use Rattle.dcat_map.specs.Tags.{tag_of, tags_among}
use Rattle.dcat_map.specs.Terms.{text_cmp}
use Rattle.dcat_map.proofs.Orders.{same_text}
use Rattle.dcat_map.proofs.SetLemmas.{ascending_set-dedup_by}
use Rattle.dcat_map.proofs.tags.tags_among.Goals as goal

pub returns : goal.returns
unfolding tags_among
returns c =
    let sorted = c.sort_unstable.new.self.items in
    let tags = filter_map (λ (t : Triple). tag_of t.object) c.args.triples.now in
    let moved : IsPermutation tags sorted =
    subst (λ xs. IsPermutation xs sorted) c.in_ok-tags.ensures c.sort_unstable.ensures.permutation in
    let set = ascending_set-dedup_by text_cmp nat_list_cmp_total same_text (pointwise nat_eq) nat_list_eq_equiv
    texts_ties tags sorted moved c.sort_unstable.ensures.sorted in
    c.from.ensures ∙ c.truncate.ensures.items ∙ ap (take 100) (dedup_is _ _ _ c.dedup.ensures.filtered ∙ set)
