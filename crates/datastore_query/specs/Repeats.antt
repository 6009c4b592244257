-- What a query names more than once. No public clause cites this.
use Rattle.std.specs.Prelude.{◌≡◌, ℕ, ◌+◌, ◌==◌, ◌||◌, Bool, List}
use Rattle.std.specs.List.{list_all}
use Rattle.datastore_query.specs.declared.column.Column.{Column}
use Rattle.datastore_query.specs.declared.column.Column.TheVariants as column
use Rattle.datastore_query.specs.declared.sort.Sort.{Sort}
use Rattle.datastore_query.specs.Query.{firsts}

-- a number for each column
abbrev pub column_number : Column → ℕ
column_number column.Id = 0
column_number (column.Field index) = index + 1

-- these numbers, and n
abbrev pub with_number : ℕ → (ℕ → Bool) → ℕ → Bool
with_number n has m = (m == n) || has m

abbrev pub is_same_column : Column → Column → Bool
is_same_column a b = column_number b == column_number a

-- the first of each group of columns that are one
abbrev pub columns_once : List Column → List Column
columns_once columns = firsts is_same_column columns

abbrev pub by_one_column : Sort → Sort → Bool
by_one_column a b = is_same_column a.column b.column

-- the first sort of each column
abbrev pub deciding : List Sort → List Sort
deciding sorts = firsts by_one_column sorts

-- The two lists have the same items: a test passes all items of the one if it passes all of the other.
abbrev pub PassAlike : {X : Type 0} → List X → List X → Type 0
PassAlike {X} xs ys = (p : X → Bool) → list_all p ys ≡ list_all p xs
