-- The keys of deleted rows, each a row with only the cells of its key, and the index that leads to them. No public
-- clause cites this.
use Rattle.std.specs.Prelude.{◌≡◌, ℕ, ◌+◌, ◌≤◌, Bool, false, ◌&&◌, if◌then◌else◌, List, [], Option, Some, None}
use Rattle.digest_index.specs.Index.{IndexState, IsUnder}
use Rattle.lexical_forms.specs.Digits.{is_empty}
use Rattle.portal_base.specs.Ordered.{IsAscending}
use Rattle.portal_base.proofs.Unique.{IsIn}
use Rattle.table_schema.specs.declared.cell.Cell.{Cell}
use Rattle.datastore_table.specs.declared.row.Row.{Row}
use Rattle.datastore_table.specs.Cells.{cells_at, same_cells}
use Rattle.datastore_table.specs.Index.{digest_of}
use Rattle.datastore_table.specs.Rows.{has_id, row_cmp}

-- the key has the cells of a row in these columns
abbrev pub is_key_of : List ℕ → List Cell → Row → Bool
is_key_of columns cells key = same_cells (cells_at columns cells) key.cells

-- the key has this `_id` and the cells
abbrev pub is_key_at : List ℕ → List Cell → ℕ → Row → Bool
is_key_at columns cells id key = has_id id key && is_key_of columns cells key

-- There is an `_id`, and the key has it and the cells.
abbrev pub is_key_under : List ℕ → List Cell → Option ℕ → Row → Bool
is_key_under columns cells None key = false
is_key_under columns cells (Some id) key = is_key_at columns cells id key

-- the key, if it has the cells
abbrev pub only_key : List ℕ → List Cell → Option Row → Option Row
only_key columns cells None = None
only_key columns cells (Some key) = if is_key_of columns cells key then Some key else None

-- The key's `_id` is under the digest of its cells, unless it has none.
abbrev pub IsLedToKey : IndexState ℕ → Row → Type 0
IsLedToKey index key = is_empty key.cells ≡ false → IsUnder index (digest_of [] key.cells) key.id

-- The key was entered, and nothing was lost.
pub record EntersKey (old new : IndexState ℕ) (key : Row) : Type 0 where
  pub led : IsLedToKey new key
  pub kept : (d i : ℕ) → IsUnder old d i → IsUnder new d i
  pub room : old.room ≤ new.room + 1

-- The keys ascend, and the index leads to each of them.
pub record AreFound (keys : List Row) (index : IndexState ℕ) : Type 0 where
  pub ascending : IsAscending row_cmp keys
  pub led : (key : Row) → IsIn key keys → IsLedToKey index key
