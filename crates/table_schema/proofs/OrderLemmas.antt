-- The order of cells distinguishes different values.
use Rattle.std.proofs.Common.{◌≡◌, ℕ, ◌≤◌, ◌+◌, ◌*◌, ◌==◌, ◌||◌, true, false, List, [], ◌∷◌, refl, sym, ap, subst, arith}
use Rattle.std.specs.declared.cmp.Ordering.{Ordering}
use Rattle.std.specs.declared.cmp.Ordering.TheVariants.{Less, Equal, Greater}
use Rattle.std.specs.Cmp.{tied_itself}
use Rattle.std.specs.List.{list_any}
use Rattle.std.specs.Ordering.{nat_cmp, int_cmp, ordering_then, is_eq}
use Rattle.std.specs.Cmp.Lexicographic.{slice_cmp}
use Rattle.std.proofs.lemmas.Bool.Decides.{Decides-eqb, Decides-int_eq, Decides-and, same_from_decides}
use Rattle.std.proofs.lemmas.Cmp.{ranked, int_ranked}
use Rattle.std.proofs.lemmas.Slice.Eq.{bytes_eq-Decides}
use Rattle.table_schema.specs.declared.cell.Cell.{Cell}
use Rattle.table_schema.specs.declared.cell.Cell.TheVariants as cell
use Rattle.table_schema.specs.Order.{rank_of, bytes_of, type_rank, month_of, same_cell, cell_cmp, cell_cmp_total}
use Rattle.table_schema.specs.Order.{exact_cmp, exact_cmp_total}
use Rattle.table_schema.specs.Printed.{IsValue}

both_equal : (r s : Ordering) → ordering_then r s ≡ Equal → (r ≡ Equal) × (s ≡ Equal)
both_equal Less s h = absurd (cc)
both_equal Equal s h = (refl, h)
both_equal Greater s h = absurd (cc)

pub same_bytes : (xs ys : List ℕ) → slice_cmp nat_cmp xs ys ≡ Equal → xs ≡ ys
same_bytes [] [] h = refl
same_bytes [] (y ∷ ys) h = absurd (cc)
same_bytes (x ∷ xs) [] h = absurd (cc)
same_bytes (x ∷ xs) (y ∷ ys) h =
    let parts = both_equal (nat_cmp x y) (slice_cmp nat_cmp xs ys) h in
    let first : x ≡ y = ranked x y Equal (sym parts.0) in
    let rest : xs ≡ ys = same_bytes xs ys parts.1 in
    cc

-- A month that is counted through the years belongs to one year.
same_month : (a m b n : ℕ) → 1 ≤ m → m ≤ 12 → 1 ≤ n → n ≤ 12 → a * 12 + m ≡ b * 12 + n → (a ≡ b) × (m ≡ n)
same_month a m b n lm hm ln hn e = (omega arith, omega arith)

from_parts : (a b : Cell) → IsValue a → IsValue b → type_rank a ≡ type_rank b → rank_of a ≡ rank_of b
    → bytes_of a ≡ bytes_of b → a ≡ b
from_parts cell.Null cell.Null h k t r s = refl
from_parts (cell.Text a) (cell.Text b) h k t r s = ap cell.Text s
from_parts (cell.Int a) (cell.Int b) h k t r s = ap cell.Int r
from_parts (cell.Number a) (cell.Number b) h k t r s = ap cell.Number r
from_parts (cell.Truth true) (cell.Truth true) h k t r s = refl
from_parts (cell.Truth true) (cell.Truth false) h k t r s = cc
from_parts (cell.Truth false) (cell.Truth true) h k t r s = cc
from_parts (cell.Truth false) (cell.Truth false) h k t r s = refl
from_parts (cell.Date a) (cell.Date b) h k t r s = ap cell.Date r
from_parts (cell.Time a) (cell.Time b) h k t r s = cc
from_parts (cell.Stamp a) (cell.Stamp b) h k t r s = ap cell.Stamp r
from_parts (cell.Year a) (cell.Year b) h k t r s = cc
from_parts (cell.YearMonth a m) (cell.YearMonth b n) h k t r s =
    let e : a * 12 + m ≡ b * 12 + n = cc in
    let same = same_month a m b n h.1 h.2 k.1 k.2 e in
    cc (same.0, same.1)
from_parts a b h k t r s = absurd (omega arith)

pub cell_cmp-equal : (a b : Cell) → IsValue a → IsValue b → cell_cmp a b ≡ Equal → a ≡ b
unfolding cell_cmp
cell_cmp-equal a b h k e =
    let first = both_equal (nat_cmp (type_rank a) (type_rank b)) _ e in
    let second = both_equal (int_cmp (rank_of a) (rank_of b)) _ first.1 in
    let same_type : type_rank a ≡ type_rank b = ranked _ _ Equal (sym first.0) in
    let rank : rank_of a ≡ rank_of b = int_ranked _ _ Equal (sym second.0) in
    from_parts a b h k same_type rank (same_bytes _ _ second.1)

pub cell_cmp-of : (a b : Cell) → a ≡ b → cell_cmp a b ≡ Equal
cell_cmp-of a b e = subst (λ (c : Cell). cell_cmp a c ≡ Equal) e (tied_itself cell_cmp_total a)

-- ---- the order that distinguishes all cells

from_all_parts : (a b : Cell) → type_rank a ≡ type_rank b → rank_of a ≡ rank_of b → bytes_of a ≡ bytes_of b
    → month_of a ≡ month_of b → a ≡ b
from_all_parts cell.Null cell.Null t r s m = refl
from_all_parts (cell.Text a) (cell.Text b) t r s m = ap cell.Text s
from_all_parts (cell.Int a) (cell.Int b) t r s m = ap cell.Int r
from_all_parts (cell.Number a) (cell.Number b) t r s m = ap cell.Number r
from_all_parts (cell.Truth true) (cell.Truth true) t r s m = refl
from_all_parts (cell.Truth true) (cell.Truth false) t r s m = cc
from_all_parts (cell.Truth false) (cell.Truth true) t r s m = cc
from_all_parts (cell.Truth false) (cell.Truth false) t r s m = refl
from_all_parts (cell.Date a) (cell.Date b) t r s m = ap cell.Date r
from_all_parts (cell.Time a) (cell.Time b) t r s m = cc
from_all_parts (cell.Stamp a) (cell.Stamp b) t r s m = ap cell.Stamp r
from_all_parts (cell.Year a) (cell.Year b) t r s m = cc
from_all_parts (cell.YearMonth a m) (cell.YearMonth b n) t r s e =
    let counted : a * 12 + m ≡ b * 12 + n = cc in
    let year : a ≡ b = omega arith in
    cc (year, e)
from_all_parts a b t r s m = absurd (omega arith)

exact_cmp-equal : (a b : Cell) → exact_cmp a b ≡ Equal → a ≡ b
unfolding exact_cmp cell_cmp
exact_cmp-equal a b e =
    let last = both_equal (cell_cmp a b) (nat_cmp (month_of a) (month_of b)) e in
    let first = both_equal (nat_cmp (type_rank a) (type_rank b)) _ last.0 in
    let second = both_equal (int_cmp (rank_of a) (rank_of b)) _ first.1 in
    let same_type : type_rank a ≡ type_rank b = ranked _ _ Equal (sym first.0) in
    let rank : rank_of a ≡ rank_of b = int_ranked _ _ Equal (sym second.0) in
    let month : month_of a ≡ month_of b = ranked _ _ Equal (sym last.1) in
    from_all_parts a b same_type rank (same_bytes _ _ second.1) month

pub equal-from : (r : Ordering) → is_eq r ≡ true → r ≡ Equal
equal-from Less h = absurd (cc)
equal-from Equal h = refl
equal-from Greater h = absurd (cc)

same_cell-is : (a b : Cell) → same_cell a b ≡ true → a ≡ b
same_cell-is cell.Null cell.Null e = refl
same_cell-is (cell.Text a) (cell.Text b) e = ap cell.Text ((bytes_eq-Decides a b).0 e)
same_cell-is (cell.Int a) (cell.Int b) e = ap cell.Int ((Decides-int_eq a b).0 e)
same_cell-is (cell.Number a) (cell.Number b) e = ap cell.Number ((Decides-int_eq a b).0 e)
same_cell-is (cell.Truth true) (cell.Truth true) e = refl
same_cell-is (cell.Truth true) (cell.Truth false) e = absurd (cc)
same_cell-is (cell.Truth false) (cell.Truth true) e = absurd (cc)
same_cell-is (cell.Truth false) (cell.Truth false) e = refl
same_cell-is (cell.Date a) (cell.Date b) e = ap cell.Date ((Decides-int_eq a b).0 e)
same_cell-is (cell.Time a) (cell.Time b) e = ap cell.Time ((Decides-eqb a b).0 e)
same_cell-is (cell.Stamp a) (cell.Stamp b) e = ap cell.Stamp ((Decides-int_eq a b).0 e)
same_cell-is (cell.Year a) (cell.Year b) e = ap cell.Year ((Decides-eqb a b).0 e)
same_cell-is (cell.YearMonth a m) (cell.YearMonth b n) e =
    let both = (Decides-and (a == b) (m == n) (Decides-eqb a b) (Decides-eqb m n)).0 e in
    let year : a ≡ b = both.0 in
    let month : m ≡ n = both.1 in
    cc (year, month)
same_cell-is a b e = absurd (cc)

same_cell-itself : (a : Cell) → same_cell a a ≡ true
same_cell-itself cell.Null = refl
same_cell-itself (cell.Text a) = (bytes_eq-Decides a a).1 refl
same_cell-itself (cell.Int a) = (Decides-int_eq a a).1 refl
same_cell-itself (cell.Number a) = (Decides-int_eq a a).1 refl
same_cell-itself (cell.Truth true) = refl
same_cell-itself (cell.Truth false) = refl
same_cell-itself (cell.Date a) = (Decides-int_eq a a).1 refl
same_cell-itself (cell.Time a) = (Decides-eqb a a).1 refl
same_cell-itself (cell.Stamp a) = (Decides-int_eq a a).1 refl
same_cell-itself (cell.Year a) = (Decides-eqb a a).1 refl
same_cell-itself (cell.YearMonth a m) =
    (Decides-and (a == a) (m == m) (Decides-eqb a a) (Decides-eqb m m)).1 (refl, refl)

-- The order makes two cells equal exactly if they are the same.
pub exact_cmp-same : (a b : Cell) → is_eq (exact_cmp a b) ≡ same_cell a b
exact_cmp-same a b = same_from_decides (is_eq (exact_cmp a b)) (same_cell a b) (
  λ e. exact_cmp-equal a b (equal-from (exact_cmp a b) e),
  λ e. subst (λ (c : Cell). is_eq (exact_cmp a c) ≡ true) e (ap is_eq (tied_itself exact_cmp_total a)),
) (
  λ e. same_cell-is a b e,
  λ e. subst (λ (c : Cell). same_cell a c ≡ true) e (same_cell-itself a),
)

pub list_any-exact : (cells : List Cell) (c : Cell)
    → list_any (λ a. is_eq (exact_cmp a c)) cells ≡ list_any (λ a. same_cell a c) cells
list_any-exact [] c = refl
list_any-exact (a ∷ cells) c = rw (exact_cmp-same a c) (ap (λ b. same_cell a c || b) (list_any-exact cells c))
