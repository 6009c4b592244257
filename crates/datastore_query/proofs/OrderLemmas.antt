-- The order of cells of one type is that of their values, and no sort ties two rows with different `_id`s.
use Rattle.std.proofs.Common.{◌≡◌, ℕ, ℤ, false, List, [], ◌∷◌, refl, sym}
use Rattle.std.specs.Prelude.{IsTrue}
use Rattle.std.specs.declared.cmp.Ordering.{Ordering}
use Rattle.std.specs.declared.cmp.Ordering.TheVariants.{Less, Equal, Greater}
use Rattle.std.specs.Ordering.{int_cmp, is_eq, nat_cmp, ordering_then}
use Rattle.std.specs.Cmp.Lexicographic.{slice_cmp}
use Rattle.table_schema.specs.Order.{cell_cmp}
use Rattle.table_schema.specs.declared.cell.Cell.TheVariants as cell
use Rattle.portal_base.specs.Ordered.{IsAscending, are_apart}
use Rattle.portal_base.proofs.Inserted.{AreApart}
use Rattle.portal_base.proofs.Removed.{AreApart-are_apart}
use Rattle.sorted_pages.proofs.SelectLemmas.{finer-apart}
use Rattle.datastore_table.specs.declared.row.Row.{Row}
use Rattle.datastore_table.specs.Rows.{row_cmp, row_cmp_total}
use Rattle.datastore_query.specs.declared.sort.Sort.{Sort}
use Rattle.datastore_query.specs.Sort.{sort_cmp, sorts_cmp}

then_equal : (r : Ordering) → ordering_then r Equal ≡ r
then_equal Less = refl
then_equal Equal = refl
then_equal Greater = refl

pub text_order : (a b : List ℕ) → slice_cmp nat_cmp a b ≡ cell_cmp (cell.Text a) (cell.Text b)
unfolding cell_cmp
text_order a b = refl

pub whole_order : (x y : ℤ) → int_cmp x y ≡ cell_cmp (cell.Int x) (cell.Int y)
unfolding cell_cmp
whole_order x y = sym (then_equal (int_cmp x y))

pub number_order : (x y : ℤ) → int_cmp x y ≡ cell_cmp (cell.Number x) (cell.Number y)
unfolding cell_cmp
number_order x y = sym (then_equal (int_cmp x y))

not_tied : (r s : Ordering) → is_eq s ≡ false → is_eq (ordering_then r s) ≡ false
not_tied Less s h = refl
not_tied Equal s h = h
not_tied Greater s h = refl

-- Rows with different `_id`s aren't tied by a sort, since it compares by `_id` last.
pub apart_rows : (sorts : List Sort) (x y : Row) → is_eq (row_cmp x y) ≡ false → is_eq (sorts_cmp sorts x y) ≡ false
apart_rows [] x y h = h
apart_rows (sort ∷ sorts) x y h =
    not_tied (sort_cmp sort x y) (sorts_cmp sorts x y) (apart_rows sorts x y h)

pub ascending_apart : (sorts : List Sort) (rows : List Row) → IsAscending row_cmp rows
    → IsTrue (are_apart (sorts_cmp sorts) rows)
ascending_apart sorts rows up =
    finer-apart row_cmp row_cmp_total (sorts_cmp sorts) (apart_rows sorts) rows up

pub apart-ascending : (sorts : List Sort) (rows : List Row) → IsAscending row_cmp rows → AreApart (sorts_cmp sorts) rows
apart-ascending sorts rows up = AreApart-are_apart (sorts_cmp sorts) rows (ascending_apart sorts rows up)
