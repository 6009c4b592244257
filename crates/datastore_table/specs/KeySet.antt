-- A set of keys and its index. No public clause cites this.
use Rattle.std.specs.Prelude.{◌≡◌, ℕ, Bool, false, List, [], Some, slice_get}
use Rattle.std.specs.Option.{option_map_or}
use Rattle.digest_index.specs.Index.{IndexState, IsUnder}
use Rattle.table_schema.specs.declared.cell.Cell.{Cell}
use Rattle.datastore_table.specs.Cells.{same_cells}
use Rattle.datastore_table.specs.Index.{digest_of}

-- the key at this index of the list is equal to this one
abbrev pub is_key_number : List (List Cell) → List Cell → ℕ → Bool
is_key_number keys key number = option_map_or (λ (other : List Cell). same_cells other key) (slice_get keys number) false

-- The index of each key in the list is under the digest of its cells.
abbrev pub AreNumbered : List (List Cell) → IndexState ℕ → Type 0
AreNumbered keys index =
    (number : ℕ) (key : List Cell) → slice_get keys number ≡ Some key → IsUnder index (digest_of [] key) number
