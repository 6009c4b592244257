-- A query's page is what the rules say.
use Rattle.std.proofs.Common.{◌≡◌, ◌∙◌, ◌↔◌, ℕ, Bool, true, false, List, [], ◌∷◌, ◌++◌, ap, drop, inl, inr, length}
use Rattle.std.proofs.Common.{map, refl, subst, sym, take}
use Rattle.std.specs.Prelude.{Contains}
use Rattle.std.specs.declared.cmp.Ordering.{Ordering}
use Rattle.std.specs.declared.cmp.Ordering.TheVariants.{Less, Equal, Greater}
use Rattle.std.specs.Cmp.{nat_cmp_is}
use Rattle.std.specs.List.Sorted.{IsPermutation}
use Rattle.std.specs.Ordering.{ordering_then}
use Rattle.portal_base.specs.Ordered.{IsAscending}
use Rattle.portal_base.proofs.Filtered.{IsIn-filter, filter-IsIn}
use Rattle.portal_base.proofs.Inserted.{IsAscending-ascending}
use Rattle.portal_base.proofs.Unique.{Contains-IsIn, IsIn, IsIn-Contains, IsIn-ascending, ascending-IsIn, unique}
use Rattle.table_schema.specs.declared.cell.Cell.{Cell}
use Rattle.datastore_table.specs.declared.row.Row.{Row}
use Rattle.datastore_table.specs.Cells.{same_cells}
use Rattle.datastore_table.specs.Rows.{row_cmp}
use Rattle.datastore_table.proofs.KeyLemmas.{cells-is, cells-itself}
use Rattle.datastore_table.proofs.PairLemmas.{AllPairs-weaker, ascending_pairs, pairs_ascending}
use Rattle.datastore_table.proofs.RowLemmas.{both_hold}
use Rattle.datastore_table.proofs.RuleLemmas.{less-from}
use Rattle.sorted_pages.proofs.PageLemmas.{parts_are}
use Rattle.sorted_pages.proofs.SelectLemmas.{ascending-permutes}
use Rattle.datastore_query.specs.declared.sort.Sort.{Sort}
use Rattle.datastore_query.specs.Column.{projected}
use Rattle.datastore_query.specs.Listing.{AreListed, AreSelectedInOrder, AreTied, ComesBefore, IsPage, IsSelected}
use Rattle.datastore_query.specs.Query.{QueryValue, firsts, firsts_if, is_selected, listing, page_rows, selected_rows}
use Rattle.datastore_query.specs.Filter.{passes_filters}
use Rattle.datastore_query.specs.Sort.{in_order, sort_cmp, sorts_cmp, sorts_cmp_total}
use Rattle.datastore_query.specs.Words.{has_words}
use Rattle.datastore_query.proofs.FirstsLemmas.{firsts_are}
use Rattle.datastore_query.proofs.OrderLemmas.{apart-ascending}
use Rattle.datastore_query.proofs.PassingLemmas.{filters_by_values, words_by_texts}
use Rattle.datastore_query.proofs.RowLemmas.{ascending_filtered}

-- ---- the order of two rows

tied-nil : (a b : Row) → AreTied [] a b
tied-nil a b sort m = absurd (IsIn-Contains sort [] m)

tied-cons : (sort : Sort) (sorts : List Sort) (a b : Row) → sort_cmp sort a b ≡ Equal → AreTied sorts a b
    → AreTied (sort ∷ sorts) a b
tied-cons sort sorts a b e rest s m = by (IsIn-Contains s (sort ∷ sorts) m)
  where
    by : IsIn s (sort ∷ sorts) → sort_cmp s a b ≡ Equal
    by (inl same) = subst (λ x. sort_cmp x a b ≡ Equal) (sym same) e
    by (inr n) = rest s (Contains-IsIn s sorts n)

tied-head : (sort : Sort) (sorts : List Sort) (a b : Row) → AreTied (sort ∷ sorts) a b → sort_cmp sort a b ≡ Equal
tied-head sort sorts a b tied = tied sort (Contains-IsIn sort (sort ∷ sorts) (inl refl))

tied-tail : (sort : Sort) (sorts : List Sort) (a b : Row) → AreTied (sort ∷ sorts) a b → AreTied sorts a b
tied-tail sort sorts a b tied s m = tied s (Contains-IsIn s (sort ∷ sorts) (inr (IsIn-Contains s sorts m)))

-- Where no sort decides, the `_id` does.
tied-last : (sorts : List Sort) (a b : Row) → AreTied sorts a b → sorts_cmp sorts a b ≡ row_cmp a b
tied-last [] a b tied = refl
tied-last (sort ∷ sorts) a b tied =
    ap (λ o. ordering_then o (sorts_cmp sorts a b)) (tied-head sort sorts a b tied)
    ∙ tied-last sorts a b (tied-tail sort sorts a b tied)

put-less : (earlier : List Sort) (deciding : Sort) (later : List Sort) (a b : Row) → AreTied earlier a b
    → sort_cmp deciding a b ≡ Less → sorts_cmp (earlier ++ deciding ∷ later) a b ≡ Less
put-less [] deciding later a b tied less = ap (λ o. ordering_then o (sorts_cmp later a b)) less
put-less (sort ∷ earlier) deciding later a b tied less =
    ap (λ o. ordering_then o (sorts_cmp (earlier ++ deciding ∷ later) a b)) (tied-head sort earlier a b tied)
    ∙ put-less earlier deciding later a b (tied-tail sort earlier a b tied) less

comes-less : (sorts : List Sort) (a b : Row) → ComesBefore sorts a b → sorts_cmp sorts a b ≡ Less
comes-less sorts a b (inl put) =
    subst (λ ss. sorts_cmp ss a b ≡ Less) (sym put.whole) (put-less put.earlier put.deciding put.later a b put.tied put.less)
comes-less sorts a b (inr last) = tied-last sorts a b last.0 ∙ sym (nat_cmp_is a.id b.id Less last.1)

comes-cons : (sort : Sort) (sorts : List Sort) (a b : Row) → sort_cmp sort a b ≡ Equal → ComesBefore sorts a b
    → ComesBefore (sort ∷ sorts) a b
comes-cons sort sorts a b e (inl put) = inl (record {
  earlier = sort ∷ put.earlier;
  deciding = put.deciding;
  later = put.later;
  whole = ap (λ ss. sort ∷ ss) put.whole;
  tied = tied-cons sort put.earlier a b e put.tied;
  less = put.less;
})
comes-cons sort sorts a b e (inr last) = inr (tied-cons sort sorts a b e last.0, last.1)

less-comes : (sorts : List Sort) (a b : Row) → sorts_cmp sorts a b ≡ Less → ComesBefore sorts a b
less-comes [] a b h = inr (tied-nil a b, less-from a.id b.id h)
less-comes (sort ∷ sorts) a b h = by (sort_cmp sort a b) refl h (less-comes sorts a b)
  where
    by : (o : Ordering) → sort_cmp sort a b ≡ o → ordering_then o (sorts_cmp sorts a b) ≡ Less
        → (sorts_cmp sorts a b ≡ Less → ComesBefore sorts a b) → ComesBefore (sort ∷ sorts) a b
    by Less e s more = inl (record {
      earlier = [];
      deciding = sort;
      later = sorts;
      whole = refl;
      tied = tied-nil a b;
      less = e;
    })
    by Equal e s more = comes-cons sort sorts a b e (more s)
    by Greater e s more = absurd (cc)

-- ---- the rows that are selected

is_selected-holds : (query : QueryValue) (row : Row) → is_selected query.filters query.words row ≡ true → IsSelected query row
is_selected-holds query row h =
    let parts = both_hold (passes_filters query.filters row) (has_words query.words row) h in
    record {
      passes = (filters_by_values query.filters row).0 parts.0;
      has = (words_by_texts query.words row).0 parts.1;
    }

holds-is_selected : (query : QueryValue) (row : Row) → IsSelected query row → is_selected query.filters query.words row ≡ true
holds-is_selected query row found =
    let passes : passes_filters query.filters row ≡ true = (filters_by_values query.filters row).1 found.passes in
    let has : has_words query.words row ≡ true = (words_by_texts query.words row).1 found.has in
    rw (passes, has) refl

-- In a table's list no row is twice.
listed-up : (query : QueryValue) (rows : List Row) → IsAscending row_cmp rows
    → IsAscending (sorts_cmp query.sorts) (in_order query.sorts (selected_rows query rows))
listed-up query rows up =
    IsAscending-ascending (sorts_cmp query.sorts) (sorts_cmp_total query.sorts) (selected_rows query rows)
    (apart-ascending query.sorts (selected_rows query rows)
    (ascending_filtered (is_selected query.filters query.words) rows up))

listed-selected : (query : QueryValue) (rows : List Row) (row : Row)
    → IsIn row (in_order query.sorts (selected_rows query rows)) → IsIn row rows × IsSelected query row
listed-selected query rows row m =
    let kept = IsIn-filter (is_selected query.filters query.words) row rows
    (ascending-IsIn (sorts_cmp query.sorts) row (selected_rows query rows) m) in
    (kept.0, is_selected-holds query row kept.1)

selected-listed : (query : QueryValue) (rows : List Row) (row : Row) → IsIn row rows → IsSelected query row
    → IsIn row (in_order query.sorts (selected_rows query rows))
selected-listed query rows row m found =
    IsIn-ascending (sorts_cmp query.sorts) row (selected_rows query rows)
    (filter-IsIn (is_selected query.filters query.words) row rows m (holds-is_selected query row found))

are-selected : (query : QueryValue) (rows : List Row) → IsAscending row_cmp rows
    → AreSelectedInOrder query rows (in_order query.sorts (selected_rows query rows))
are-selected query rows up = record {
  same = λ row. (
    λ m. to row (listed-selected query rows row (IsIn-Contains row ordered m)),
    λ f. Contains-IsIn row ordered (selected-listed query rows row (IsIn-Contains row rows f.0) f.1),
  );
  sorted = AllPairs-weaker (λ (a b : Row). sorts_cmp query.sorts a b ≡ Less) (ComesBefore query.sorts)
      (less-comes query.sorts) ordered (ascending_pairs (sorts_cmp query.sorts) ordered (listed-up query rows up));
}
  where
    ordered : List Row
    ordered = in_order query.sorts (selected_rows query rows)

    to : (row : Row) → IsIn row rows × IsSelected query row → Contains rows row × IsSelected query row
    to row f = (Contains-IsIn row rows f.0, f.1)

selected-are : (query : QueryValue) (rows selected : List Row) → IsAscending row_cmp rows → AreSelectedInOrder query rows selected
    → in_order query.sorts (selected_rows query rows) ≡ selected
selected-are query rows selected up are =
    unique (sorts_cmp query.sorts) (sorts_cmp_total query.sorts) (in_order query.sorts (selected_rows query rows)) selected
    (listed-up query rows up)
    (pairs_ascending (sorts_cmp query.sorts) selected
    (AllPairs-weaker (ComesBefore query.sorts) (λ (a b : Row). sorts_cmp query.sorts a b ≡ Less)
    (comes-less query.sorts) selected are.sorted))
    (λ row m. to row (listed-selected query rows row m)) (λ row m. from row ((are.same row).0 (Contains-IsIn row selected m)))
  where
    to : (row : Row) → IsIn row rows × IsSelected query row → IsIn row selected
    to row f = IsIn-Contains row selected ((are.same row).1 (Contains-IsIn row rows f.0, f.1))

    from : (row : Row) → Contains rows row × IsSelected query row → IsIn row (in_order query.sorts (selected_rows query rows))
    from row f = selected-listed query rows row (IsIn-Contains row rows f.0) f.1

pub rows_in_order : (query : QueryValue) (rows selected : List Row) → IsAscending row_cmp rows
    → (in_order query.sorts (selected_rows query rows) ≡ selected) ↔ AreSelectedInOrder query rows selected
rows_in_order query rows selected up =
    (λ e. subst (λ rs. AreSelectedInOrder query rows rs) e (are-selected query rows up), selected-are query rows selected up)

-- ---- the listing and its page

listed-are : (b : Bool) (rows : List (List Cell)) → AreListed rows b (firsts_if b rows)
listed-are false rows = AreListed.all_rows
listed-are true rows =
    AreListed.distinct_rows (firsts same_cells rows)
    ((firsts_are same_cells cells-is cells-itself rows (firsts same_cells rows)).0 refl)

are-listed : (b : Bool) (rows found : List (List Cell)) → AreListed rows b found → firsts_if b rows ≡ found
are-listed false rows found AreListed.all_rows = refl
are-listed true rows found (AreListed.distinct_rows first are) =
    (firsts_are same_cells cells-is cells-itself rows first).1 are

page-is : (query : QueryValue) (rows : List Row) → IsAscending row_cmp rows
    → IsPage query rows (page_rows query rows) (length (listing query rows))
page-is query rows up = record {
  selected = in_order query.sorts (selected_rows query rows);
  selects = are-selected query rows up;
  listed = listing query rows;
  lists = listed-are query.distinct (map (projected query.columns) (in_order query.sorts (selected_rows query rows)));
  part = (parts_are query.offset query.limit (listing query rows) (page_rows query rows)).0 refl;
  count = refl;
}

is-page : (query : QueryValue) (rows : List Row) (page : List (List Cell)) (total : ℕ) → IsAscending row_cmp rows
    → IsPage query rows page total → (page_rows query rows ≡ page) × (length (listing query rows) ≡ total)
is-page query rows page total up p =
    let ordered : in_order query.sorts (selected_rows query rows) ≡ p.selected = selected-are query rows p.selected up p.selects in
    let same : listing query rows ≡ p.listed =
    ap (λ (rs : List Row). firsts_if query.distinct (map (projected query.columns) rs)) ordered
    ∙ are-listed query.distinct (map (projected query.columns) p.selected) p.listed p.lists in (
      ap (λ (cells : List (List Cell)). take query.limit (drop query.offset cells)) same
          ∙ (parts_are query.offset query.limit p.listed page).1 p.part,
      ap length same ∙ sym p.count,
    )

pub page_by_rules : (query : QueryValue) (rows : List Row) (page : List (List Cell)) (total : ℕ)
    → IsAscending row_cmp rows
    → ((page_rows query rows ≡ page) × (length (listing query rows) ≡ total)) ↔ IsPage query rows page total
page_by_rules query rows page total up = (to, is-page query rows page total up)
  where
    to : (page_rows query rows ≡ page) × (length (listing query rows) ≡ total) → IsPage query rows page total
    to e =
        subst (λ n. IsPage query rows page n) e.1
        (subst (λ cells. IsPage query rows cells (length (listing query rows))) e.0 (page-is query rows up))

-- ---- each row as often

pub order_permutes : (sorts : List Sort) (rows : List Row) → IsPermutation rows (in_order sorts rows)
order_permutes sorts rows = ascending-permutes (sorts_cmp sorts) rows
