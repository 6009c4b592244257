-- The rows that a batch has written, kept by their `_id`. No public clause cites this.
use Rattle.std.specs.Prelude.{◌≡◌, ℕ, List, [], ◌∷◌, map}
use Rattle.portal_base.specs.Ordered.{IsAscending}
use Rattle.datastore_table.specs.declared.row.Row.{Row}
use Rattle.datastore_table.specs.Rows.{row_cmp}

-- each key is the `_id` of its row
abbrev pub AreKeyedById : List (ℕ × Row) → Type 0
AreKeyedById [] = Unit {0}
AreKeyedById (entry ∷ entries) = (entry.0 ≡ entry.1.id) × AreKeyedById entries

-- the rows, in the order of the keys
abbrev pub rows_in : List (ℕ × Row) → List Row
rows_in entries = map (λ entry. entry.1) entries

-- Each key is the `_id` of its row, and the rows ascend.
pub record AreById (entries : List (ℕ × Row)) : Type 0 where
  pub keyed : AreKeyedById entries
  pub ascending : IsAscending row_cmp (rows_in entries)
