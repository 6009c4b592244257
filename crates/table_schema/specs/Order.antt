-- The equality and the order of cells.
use Rattle.std.specs.Prelude.{ℕ, ◌+◌, ◌*◌, ◌==◌, Bool, true, false, ◌&&◌, not, if◌then◌else◌, List, [], ℤ, pos}
use Rattle.std.specs.declared.cmp.Ordering.{Ordering}
use Rattle.std.specs.Ordering.{nat_cmp, int_cmp, int_eq, on, then_cmp}
use Rattle.std.specs.Cmp.{IsTotalOrder, on_total, then_total, nat_cmp_total, int_cmp_total}
use Rattle.std.specs.Cmp.Lexicographic.{slice_cmp, nat_list_cmp_total}
use Rattle.std.specs.Str.{bytes_eq}
use Rattle.table_schema.specs.declared.cell.Cell.{Cell}
use Rattle.table_schema.specs.declared.cell.Cell.TheVariants as cell

-- the two cells are equal
abbrev pub same_cell : Cell → Cell → Bool
same_cell cell.Null cell.Null = true
same_cell (cell.Text a) (cell.Text b) = bytes_eq a b
same_cell (cell.Int a) (cell.Int b) = int_eq a b
same_cell (cell.Number a) (cell.Number b) = int_eq a b
same_cell (cell.Truth a) (cell.Truth b) = if a then b else not b
same_cell (cell.Date a) (cell.Date b) = int_eq a b
same_cell (cell.Time a) (cell.Time b) = a == b
same_cell (cell.Stamp a) (cell.Stamp b) = int_eq a b
same_cell (cell.Year a) (cell.Year b) = a == b
same_cell (cell.YearMonth a m) (cell.YearMonth b n) = (a == b) && (m == n)
same_cell a b = false

-- The rank of a cell among the cells of its type: false before true, and months counted through the years. All texts
-- have the same rank, and Null has one rank.
abbrev pub rank_of : Cell → ℤ
rank_of cell.Null = pos 0
rank_of (cell.Text text) = pos 0
rank_of (cell.Int z) = z
rank_of (cell.Number billionths) = billionths
rank_of (cell.Truth b) = pos (if b then 1 else 0)
rank_of (cell.Date day) = day
rank_of (cell.Time second) = pos second
rank_of (cell.Stamp seconds) = seconds
rank_of (cell.Year year) = pos year
rank_of (cell.YearMonth year month) = pos (year * 12 + month)

-- the bytes of a text, and none for other cells
abbrev pub bytes_of : Cell → List ℕ
bytes_of (cell.Text text) = text
bytes_of other = []

-- the rank of a cell's type in the order of all cells; Null comes last
abbrev pub type_rank : Cell → ℕ
type_rank (cell.Text text) = 0
type_rank (cell.Int z) = 1
type_rank (cell.Number billionths) = 2
type_rank (cell.Truth b) = 3
type_rank (cell.Date day) = 4
type_rank (cell.Time second) = 5
type_rank (cell.Stamp seconds) = 6
type_rank (cell.Year year) = 7
type_rank (cell.YearMonth year month) = 8
type_rank cell.Null = 9

-- The order of cells: by their types, in a type by their ranks, and texts by their bytes.
unfoldable pub cell_cmp : Cell → Cell → Ordering
cell_cmp = then_cmp (on type_rank nat_cmp) (then_cmp (on rank_of int_cmp) (on bytes_of (slice_cmp nat_cmp)))

pub cell_cmp_total : IsTotalOrder cell_cmp
unfolding cell_cmp
cell_cmp_total =
    then_total (on_total type_rank nat_cmp_total)
    (then_total (on_total rank_of int_cmp_total) (on_total bytes_of nat_list_cmp_total))

-- the month of a year and month, and 0 for other cells
abbrev pub month_of : Cell → ℕ
month_of (cell.YearMonth year month) = month
month_of other = 0

-- The order of cells, and then by the month. It makes equal cells alone equal, also those that are no values.
unfoldable pub exact_cmp : Cell → Cell → Ordering
exact_cmp = then_cmp cell_cmp (on month_of nat_cmp)

pub exact_cmp_total : IsTotalOrder exact_cmp
unfolding exact_cmp
exact_cmp_total = then_total cell_cmp_total (on_total month_of nat_cmp_total)
