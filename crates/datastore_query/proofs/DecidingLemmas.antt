-- Of several sorts by one column the first decides.
use Rattle.std.proofs.Common.{◌≡◌, ◌∙◌, ◌+◌, Bool, true, false, ◌||◌, List, [], ◌∷◌, ◌++◌, refl, ap, sym, cond, fold}
use Rattle.std.proofs.Common.{append_assoc, append-nil, arith}
use mathlib.Core.Path.{fun_ext}
use Rattle.std.specs.declared.cmp.Ordering.{Ordering}
use Rattle.std.specs.declared.cmp.Ordering.TheVariants.{Less, Equal, Greater}
use Rattle.std.specs.Ordering.{ordering_then}
use Rattle.std.specs.List.{list_any}
use Rattle.std.proofs.lemmas.Bool.{eqb-true}
use Rattle.portal_base.specs.Ordered.{ascending}
use Rattle.sorted_pages.proofs.DirectionLemmas.{tied, untied}
use Rattle.datastore_table.specs.declared.row.Row.{Row}
use Rattle.datastore_query.specs.declared.column.Column.{Column}
use Rattle.datastore_query.specs.declared.column.Column.TheVariants as column
use Rattle.datastore_query.specs.declared.sort.Sort.{Sort}
use Rattle.datastore_query.specs.Query.{with_first}
use Rattle.datastore_query.specs.Repeats.{by_one_column, deciding, is_same_column}
use Rattle.datastore_query.specs.Sort.{column_cmp, column_cmp_total, in_order, sort_cmp, sorts_cmp}

-- columns with one number are one column
pub one_column : (a b : Column) → is_same_column a b ≡ true → a ≡ b
one_column column.Id column.Id e = refl
one_column column.Id (column.Field j) e = absurd (omega (arith, eqb-true (j + 1) 0 e))
one_column (column.Field i) column.Id e = absurd (omega (arith, eqb-true 0 (i + 1) e))
one_column (column.Field i) (column.Field j) e =
    let same : j + 1 ≡ i + 1 = eqb-true (j + 1) (i + 1) e in
    let k : i ≡ j = omega arith in
    ap column.Field k

-- Two sorts by one column tie the same rows.
also_tied : (one other : Sort) (a b : Row) → is_same_column other.column one.column ≡ true
    → sort_cmp one a b ≡ Equal → sort_cmp other a b ≡ Equal
also_tied one other a b same e =
    let o = column_cmp_total one.column in
    let on_one : column_cmp one.column a b ≡ Equal = untied one.direction (column_cmp one.column) o a b e in
    let on_other : column_cmp other.column a b ≡ Equal =
    ap (λ c. column_cmp c a b) (one_column other.column one.column same) ∙ on_one in
    tied other.direction (column_cmp other.column) (column_cmp_total other.column) a b on_other

-- A sort that ties two rows decides nothing between them.
without_tied : (before after : List Sort) (sort : Sort) (a b : Row) → sort_cmp sort a b ≡ Equal
    → sorts_cmp (before ++ sort ∷ after) a b ≡ sorts_cmp (before ++ after) a b
without_tied [] after sort a b e = ap (λ r. ordering_then r (sorts_cmp after a b)) e
without_tied (first ∷ before) after sort a b e =
    ap (ordering_then (sort_cmp first a b)) (without_tied before after sort a b e)

-- A sort by a column that an earlier sort names decides nothing.
pub without_later : (before after : List Sort) (sort : Sort) (a b : Row) → list_any (by_one_column sort) before ≡ true
    → sorts_cmp (before ++ sort ∷ after) a b ≡ sorts_cmp (before ++ after) a b
without_later [] after sort a b e = absurd (cc)
without_later (first ∷ before) after sort a b e =
    by (sort_cmp first a b) refl (without_later before after sort a b)
  where
    among : (same : Bool) → by_one_column sort first ≡ same → sort_cmp first a b ≡ Equal
        → (list_any (by_one_column sort) before ≡ true
        → sorts_cmp (before ++ sort ∷ after) a b ≡ sorts_cmp (before ++ after) a b)
        → sorts_cmp (before ++ sort ∷ after) a b ≡ sorts_cmp (before ++ after) a b
    among true same h more = without_tied before after sort a b (also_tied first sort a b same h)
    among false same h more = more (ap (λ b. b || list_any (by_one_column sort) before) (sym same) ∙ e)

    by : (r : Ordering) → sort_cmp first a b ≡ r
        → (list_any (by_one_column sort) before ≡ true
        → sorts_cmp (before ++ sort ∷ after) a b ≡ sorts_cmp (before ++ after) a b)
        → ordering_then r (sorts_cmp (before ++ sort ∷ after) a b) ≡ ordering_then r (sorts_cmp (before ++ after) a b)
    by Less h more = refl
    by Greater h more = refl
    by Equal h more = among (by_one_column sort first) refl h more

first_decides : (kept sorts : List Sort) (a b : Row)
    → sorts_cmp (fold (with_first by_one_column) kept sorts) a b ≡ sorts_cmp (kept ++ sorts) a b
first_decides kept [] a b = ap (λ s. sorts_cmp s a b) (sym (append-nil kept))
first_decides kept (sort ∷ sorts) a b =
    by (list_any (by_one_column sort) kept) refl (first_decides kept sorts a b) (first_decides (kept ++ sort ∷ []) sorts a b)
  where
    by : (found : Bool) → list_any (by_one_column sort) kept ≡ found
        → sorts_cmp (fold (with_first by_one_column) kept sorts) a b ≡ sorts_cmp (kept ++ sorts) a b
        → sorts_cmp (fold (with_first by_one_column) (kept ++ sort ∷ []) sorts) a b
        ≡ sorts_cmp ((kept ++ sort ∷ []) ++ sorts) a b
        → sorts_cmp (fold (with_first by_one_column) (cond found kept (kept ++ sort ∷ [])) sorts) a b
        ≡ sorts_cmp (kept ++ sort ∷ sorts) a b
    by true e more other = more ∙ sym (without_later kept sorts sort a b e)
    by false e more other = other ∙ ap (λ l. sorts_cmp l a b) (append_assoc kept (sort ∷ []) sorts)

-- The first sort of each column orders rows as all sorts do.
pub deciding_order : (sorts : List Sort) (rows : List Row) → in_order (deciding sorts) rows ≡ in_order sorts rows
deciding_order sorts rows =
    ap (λ (cmp : Row → Row → Ordering). ascending cmp rows) (fun_ext (λ a. fun_ext (λ b. first_decides [] sorts a b)))
