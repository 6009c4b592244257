use Rattle.std.proofs.Common.{rules, ℕ, length, ◌∙◌, ap, subst, List}
use Rattle.std.specs.Prelude.{slice_index_or}
use Rattle.std.specs.List.{list_any}
use Rattle.std.specs.List.Sorted.{IsSearchInRange, IsBinarySearchResult}
use Rattle.std.proofs.lemmas.Fn.{always_returns_same}
use Rattle.table_schema.specs.declared.cell.Cell.TheVariants.{Null}
use Rattle.table_schema.specs.Order.{same_cell, exact_cmp, exact_cmp_total}
use Rattle.table_schema.proofs.IndexLemmas.{found_by_halving}
use Rattle.table_schema.proofs.OrderLemmas.{list_any-exact}
use Rattle.table_schema.proofs.allowed.AllowedCells.has.Goals as goal

pub returns : goal.returns
returns c =
    let cells = c.self.inside.cells in
    let x = c.args.cell.now in
    let r = c.binary_search_by.result in
    let list = c.as_slice.ensures.value in
    let searched = c.binary_search_by.ensures.position (λ i. exact_cmp (slice_index_or cells i Null) x)
    (always_returns_same _ _ _ (λ a r f' k. search rules)) in
    c.is_ok.ensures.value
    ∙ found_by_halving exact_cmp exact_cmp_total Null cells c.self.inside.indices.items c.self.invariant x r
    (subst (λ (l : List ℕ). IsSearchInRange r (length l)) list c.binary_search_by.ensures.bound)
    (subst (λ (l : List ℕ). IsBinarySearchResult (λ i. exact_cmp (slice_index_or cells i Null) x) l r) list searched)
    ∙ list_any-exact cells x ∙ ap (list_any (λ a. same_cell a x)) c.self.view_is
