-- The shelf: datasets by number, found by their ids and names.
use Rattle.std.specs.Prelude.{◌≡◌, ℕ, ◌<◌, ◌^◌, true, List, map, find, Option, Some, None, IfSome}
use Rattle.std.specs.List.{filter_map}
use Rattle.std.specs.Option.{option_map}
use Rattle.std.specs.declared.cmp.Ordering.{Ordering}
use Rattle.std.specs.Ordering.{nat_cmp}
use Rattle.portal_base.specs.Ordered.{IsAscending, ascending, found, upserted, dropped}
use Rattle.packages.specs.Named.{is_named}
use Rattle.packages.specs.Order.{dataset_cmp}
use Rattle.packages.specs.declared.package.Package.{Package}

-- by number
abbrev pub number_cmp : ℕ × Package → ℕ × Package → Ordering
number_cmp e f = nat_cmp e.0 f.0

-- the order of an entry's number against a number
abbrev pub at_number : ℕ → ℕ × Package → Ordering
at_number n e = nat_cmp e.0 n

-- The datasets with their numbers, ordered by number. `room` is the number for the next dataset, if there is room.
pub record ShelfState : Type 0 where
  pub entries : List (ℕ × Package)
  pub room : Option ℕ

-- the dataset at the number
abbrev pub package_at : ℕ → ShelfState → Option Package
package_at n s = option_map (λ e. e.1) (found (at_number n) s.entries)

-- the datasets at these numbers
abbrev pub datasets_at : ShelfState → List ℕ → List Package
datasets_at s numbers = filter_map (λ n. package_at n s) numbers

-- the number of the dataset whose id or name this is
abbrev pub number_in : List ℕ → ShelfState → Option ℕ
number_in key s = option_map (λ e. e.0) (find (λ e. is_named key e.1) s.entries)

-- with this dataset at the number, in place of the one there
abbrev pub with_package : ℕ → Package → ShelfState → ShelfState
with_package n dataset s = record s { entries = upserted number_cmp (n, dataset) s.entries }

-- without the dataset at the number
abbrev pub without_number : ℕ → ShelfState → ShelfState
without_number n s = record s { entries = dropped (at_number n) s.entries }

-- with room for a dataset at this number, or without room
abbrev pub with_room : Option ℕ → ShelfState → ShelfState
with_room room s = record s { room = room }

-- the datasets, ordered by id
abbrev pub datasets_of : ShelfState → List Package
datasets_of s = ascending dataset_cmp (map (λ e. e.1) s.entries)

-- The numbers ascend and are below 2^32. No text is an id or a name of datasets at two numbers, so that ids and names
-- are distinct, and no id is another's name. If there is room, its number is below 2^32 and has no dataset.
pub record IsValidShelf (s : ShelfState) : Type 0 where
  pub numbers : IsAscending number_cmp s.entries
  pub below : (n : ℕ) (d : Package) → package_at n s ≡ Some d → n < 2 ^ 32
  pub apart : (key : List ℕ) (m n : ℕ) (d e : Package) → package_at m s ≡ Some d → package_at n s ≡ Some e
      → is_named key d ≡ true → is_named key e ≡ true → m ≡ n
  pub vacant : IfSome s.room (λ n. (n < 2 ^ 32) × (package_at n s ≡ None))
