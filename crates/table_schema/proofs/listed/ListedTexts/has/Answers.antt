use Rattle.std.proofs.Common.{rules, ℕ, length, ◌∙◌, ap, subst, List, []}
use Rattle.std.specs.Prelude.{slice_index_or}
use Rattle.std.specs.List.{list_any}
use Rattle.std.specs.List.Sorted.{IsSearchInRange, IsBinarySearchResult}
use Rattle.std.proofs.lemmas.Fn.{always_returns_same}
use Rattle.std.specs.Ordering.{nat_cmp}
use Rattle.std.specs.Cmp.Lexicographic.{slice_cmp, nat_list_cmp_total}
use Rattle.std.specs.Str.{bytes_eq}
use Rattle.table_schema.proofs.IndexLemmas.{found_by_halving}
use Rattle.table_schema.proofs.IndexLemmas.{list_any-texts}
use Rattle.table_schema.proofs.listed.ListedTexts.has.Goals as goal

pub returns : goal.returns
returns c =
    let texts = c.self.inside.texts in
    let x = c.args.text.now in
    let r = c.binary_search_by.result in
    let list = c.as_slice.ensures.value in
    let searched = c.binary_search_by.ensures.position (λ i. slice_cmp nat_cmp (slice_index_or texts i []) x)
    (always_returns_same _ _ _ (λ a r f' k. search rules)) in
    c.is_ok.ensures.value
    ∙ found_by_halving (slice_cmp nat_cmp) nat_list_cmp_total [] texts c.self.inside.indices.items c.self.invariant x r
    (subst (λ (l : List ℕ). IsSearchInRange r (length l)) list c.binary_search_by.ensures.bound)
    (subst (λ (l : List ℕ). IsBinarySearchResult (λ i. slice_cmp nat_cmp (slice_index_or texts i []) x) l r) list searched)
    ∙ list_any-texts texts x ∙ ap (list_any (λ a. bytes_eq a x)) c.self.view_is
