-- A cell among the values of a filter, which are in order.
use Rattle.std.proofs.Common.{◌≡◌, ◌∙◌, ℕ, false, List, Result, Err, refl, ap, subst, sym}
use Rattle.std.specs.Prelude.{pos}
use Rattle.std.specs.List.{list_any}
use Rattle.std.specs.List.Sorted.{IsBinarySearchResult, IsPermutation, IsSorted}
use Rattle.std.specs.Ordering.{is_eq}
use mathlib.Core.Path.{fun_ext}
use Rattle.std.proofs.lemmas.Cmp.{int_eq_equiv, tied_itself}
use Rattle.std.proofs.lemmas.List.Sorted.{list_any-IsPermutation}
use Rattle.table_schema.specs.Order.{cell_cmp, cell_cmp_total, same_cell}
use Rattle.table_schema.specs.declared.cell.Cell.{Cell}
use Rattle.table_schema.specs.declared.cell.Cell.TheVariants as cell
use Rattle.datastore_table.proofs.KeyLemmas.{same_cell-is}
use Rattle.datastore_query.specs.Filter.{is_id}
use Rattle.datastore_query.specs.OrderedValues.{AreOrdered}
use Rattle.datastore_query.proofs.SearchLemmas.{none_found, none_of_fewer}

pub ordered_values : (values ordered : List Cell) → IsPermutation values ordered → IsSorted cell_cmp ordered
    → AreOrdered values ordered
ordered_values values ordered moved up =
    record { same = λ p. sym (list_any-IsPermutation p values ordered moved); sorted = up }

-- A cell that a search by halves doesn't find is no value.
pub none_where_not_found : (values : List Cell) (c : Cell) (r : Result ℕ ℕ) (i : ℕ) → r ≡ Err i
    → IsSorted cell_cmp values → IsBinarySearchResult (λ value. cell_cmp value c) values r
    → false ≡ list_any (same_cell c) values
none_where_not_found values c r i is up found =
    let parts : IsBinarySearchResult (λ value. cell_cmp value c) values (Err i) =
    subst (IsBinarySearchResult (λ value. cell_cmp value c) values) is found in
    sym (none_of_fewer (same_cell c) (λ value. is_eq (cell_cmp value c))
    (λ value e. ap (λ v. is_eq (cell_cmp v c)) (sym (same_cell-is c value e)) ∙ ap is_eq (tied_itself cell_cmp_total c))
    values (none_found cell_cmp_total values c i up parts))

-- An integer is an `_id` exactly where it is the cell of that number.
pub id-as_cell : (id : ℕ) (value : Cell) → same_cell (cell.Int (pos id)) value ≡ is_id id value
id-as_cell id (cell.Int z) = int_eq_equiv.symm (pos id) z
id-as_cell id cell.Null = refl
id-as_cell id (cell.Text text) = refl
id-as_cell id (cell.Number z) = refl
id-as_cell id (cell.Truth b) = refl
id-as_cell id (cell.Date day) = refl
id-as_cell id (cell.Time second) = refl
id-as_cell id (cell.Stamp seconds) = refl
id-as_cell id (cell.Year year) = refl
id-as_cell id (cell.YearMonth year month) = refl

pub ids_as_cells : (id : ℕ) (values : List Cell)
    → list_any (same_cell (cell.Int (pos id))) values ≡ list_any (is_id id) values
ids_as_cells id values = ap (λ p. list_any p values) (fun_ext (λ value. id-as_cell id value))
