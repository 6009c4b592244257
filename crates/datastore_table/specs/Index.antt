-- The index that finds a table's rows: their `_id`s by digests of their cells. No public clause cites this.
use Rattle.std.specs.Prelude.{◌≡◌, ℕ, ◌+◌, ◌*◌, ◌≤◌, ◌==◌, Bool, true, false, ◌&&◌, not, List, [], ◌∷◌, ◌++◌}
use Rattle.std.specs.Prelude.{fold, length, if◌then◌else◌}
use Rattle.std.specs.Prelude.{Option, Some, None, slice_get}
use Rattle.std.specs.List.{list_any}
use Rattle.std.specs.Option.{option_map_or}
use Rattle.std.specs.Vec.{vec_len, vec_capacity}
use Rattle.std.specs.Hash as hash
use Rattle.std.specs.Hash.DefaultHasher as sip
use Rattle.std.specs.declared.hash.DefaultHasher.{DefaultHasher}
use Rattle.digest_index.specs.Index.{IndexState, IsUnder}
use Rattle.lexical_forms.specs.Digits.{is_empty}
use Rattle.portal_base.specs.Ordered.{IsAscending}
use Rattle.portal_base.proofs.Unique.{IsIn}
use Rattle.table_schema.specs.Field.{FieldValue, SchemaValue}
use Rattle.table_schema.specs.Order.{rank_of}
use Rattle.table_schema.specs.declared.cell.Cell.{Cell}
use Rattle.table_schema.specs.declared.cell.Cell.TheVariants as cell
use Rattle.datastore_table.specs.declared.row.Row.{Row}
use Rattle.datastore_table.specs.declared.store.RowStore.{RowStore}
use Rattle.datastore_table.specs.declared.lookup_key.LookupKey.{LookupKey}
use Rattle.datastore_table.specs.declared.lookup_key.LookupKey.TheVariants as lookup_key
use Rattle.datastore_table.specs.Batch.{is_among}
use Rattle.datastore_table.specs.Cells.{cells_at, has_null_at}
use Rattle.datastore_table.specs.Meets.{IsTable, keys_apart, uniques_apart}
use Rattle.datastore_table.specs.Rows.{has_cells, has_id, has_like, is_other, row_at, row_cmp}

-- ---- digests

-- A text ends with a byte that no text contains.
abbrev pub with_cell : DefaultHasher → Cell → DefaultHasher
with_cell state (cell.Text text) = fold sip.write (sip.write state text) (hash.u8 255)
with_cell state other = fold sip.write state (hash.i128 (rank_of other))

abbrev pub with_column : DefaultHasher → ℕ → DefaultHasher
with_column state column = fold sip.write state (hash.u32 column)

-- the SipHash-1-3, with both keys 0, of columns and of the cells in them
abbrev pub digest_of : List ℕ → List Cell → ℕ
digest_of columns cells = sip.finish (fold with_cell (fold with_column sip.initial columns) cells)

-- the cells that a look-up searches for
abbrev pub lookup_cells : LookupKey → List Cell
lookup_cells (lookup_key.OfKey cells) = cells.now
lookup_cells (lookup_key.OfRow cells columns) = cells_at columns.now cells.now

-- ---- an index of rows

-- The row's `_id` is under the digest of its cells in these columns, unless one of them is Null.
abbrev pub IsLedTo : List ℕ → IndexState ℕ → Row → Type 0
IsLedTo columns index row =
    has_null_at columns row.cells ≡ false → IsUnder index (digest_of columns (cells_at columns row.cells)) row.id

-- the index leads to each of the rows by these columns
abbrev pub IsIndexedAt : List ℕ → List Row → IndexState ℕ → Type 0
IsIndexedAt columns rows index = (row : Row) → IsIn row rows → IsLedTo columns index row

-- the index leads to each of the rows by each of these lists of columns
abbrev pub IsIndexed : List (List ℕ) → List Row → IndexState ℕ → Type 0
IsIndexed column_lists rows index = (columns : List ℕ) → IsIn columns column_lists → IsIndexedAt columns rows index

-- the index leads to each of the rows by each unique field
abbrev pub IsUniquelyIndexed : List FieldValue → List Row → IndexState ℕ → Type 0
IsUniquelyIndexed fields rows index =
    (column : ℕ) (field : FieldValue) → slice_get fields column ≡ Some field → field.constraints.unique ≡ true
    → IsIndexedAt (column ∷ []) rows index

-- the column of each unique field, as a list of one column; the first of the fields has this column
abbrev pub unique_column_lists : ℕ → List FieldValue → List (List ℕ)
unique_column_lists column [] = []
unique_column_lists column (field ∷ fields) =
    if field.constraints.unique then (column ∷ []) ∷ unique_column_lists (column + 1) fields
    else unique_column_lists (column + 1) fields

abbrev pub key_column_lists : List ℕ → List (List ℕ)
key_column_lists key = if is_empty key then [] else key ∷ []

-- the lists of columns that the index covers: the columns of the primary key, and the column of each unique field
abbrev pub column_lists_of : SchemaValue → List (List ℕ)
column_lists_of schema = key_column_lists schema.key ++ unique_column_lists 0 schema.fields

-- The row was entered by these columns, and nothing was lost.
pub record EntersAt (old new : IndexState ℕ) (columns : List ℕ) (row : Row) : Type 0 where
  pub led : IsLedTo columns new row
  pub kept : (d i : ℕ) → IsUnder old d i → IsUnder new d i
  pub room : old.room ≤ new.room + 1

-- The row was entered by each of these lists of columns, and nothing was lost.
pub record EntersRow (old new : IndexState ℕ) (column_lists : List (List ℕ)) (row : Row) : Type 0 where
  pub led : (columns : List ℕ) → IsIn columns column_lists → IsLedTo columns new row
  pub kept : (d i : ℕ) → IsUnder old d i → IsUnder new d i
  pub room : old.room ≤ new.room + length column_lists

-- The rows ascend and have distinct keys, and the index leads to each row by its key.
pub record IsKeyed (key : List ℕ) (rows : List Row) (index : IndexState ℕ) : Type 0 where
  pub ascending : IsAscending row_cmp rows
  pub apart : keys_apart key rows ≡ true
  pub indexed : is_empty key ≡ false → IsIndexedAt key rows index

-- In addition, the rows have distinct cells in each unique field, and the index leads to each row by each of these
-- fields.
pub record IsSearchable (schema : SchemaValue) (rows : List Row) (index : IndexState ℕ) : Type 0 where
  pub keyed : IsKeyed schema.key rows index
  pub uniques : uniques_apart 0 schema.fields rows ≡ true
  pub unique : IsUniquelyIndexed schema.fields rows index

-- the row, if it has this `_id`
abbrev pub only : ℕ → Option Row → Option Row
only id None = None
only id (Some row) = if has_id id row then Some row else None

-- at most one of the rows has these cells in these columns
abbrev pub IsAlone : List ℕ → List Cell → List Row → Type 0
IsAlone columns cells rows =
    (a b : Row) → IsIn a rows → IsIn b rows → has_cells columns cells a ≡ true → has_cells columns cells b ≡ true
    → a.id ≡ b.id

-- the row with this `_id` has these cells in these columns
abbrev pub has_cells_at : List ℕ → List Cell → List Row → ℕ → Bool
has_cells_at columns cells rows id = option_map_or (has_cells columns cells) (row_at id rows) false

-- the row, unless a written row has its `_id`
abbrev pub unwritten : List Row → Option Row → Option Row
unwritten written None = None
unwritten written (Some row) = if has_like written row then None else Some row

-- There is a row, it is not the excepted one, and no written row has its `_id`.
abbrev pub is_other_unwritten : Option ℕ → List Row → Option Row → Bool
is_other_unwritten except written None = false
is_other_unwritten except written (Some row) = is_other except row && not (has_like written row)

-- The row with this `_id` is like another row.
abbrev pub is_twice : (Row → Row → Bool) → List Row → ℕ → Bool
is_twice like rows id =
    option_map_or (λ (row : Row). list_any (λ (other : Row). not (other.id == row.id) && like row other) rows)
    (row_at id rows) false

-- ---- the store of rows

-- The `_id` isn't under the digest of these cells in any of these lists of columns.
abbrev pub IsGone : List (List ℕ) → List Cell → ℕ → IndexState ℕ → Type 0
IsGone column_lists cells id index =
    (columns : List ℕ) → IsIn columns column_lists → IsUnder index (digest_of columns (cells_at columns cells)) id
    → ⊥

-- The row with this `_id`, if there is one, has no entry in the index.
abbrev pub IsLeft : List (List ℕ) → List Row → ℕ → IndexState ℕ → Type 0
IsLeft column_lists rows id index = (row : Row) → row_at id rows ≡ Some row → IsGone column_lists row.cells id index

-- Only entries of this `_id` were removed, and none was added.
pub record LeavesRow (old new : IndexState ℕ) (id : ℕ) : Type 0 where
  pub kept : (d i : ℕ) → (i ≡ id → ⊥) → IsUnder old d i → IsUnder new d i
  pub there : (d i : ℕ) → IsUnder new d i → IsUnder old d i
  pub room : old.room ≤ new.room

-- Only entries of these `_id`s were removed.
pub record LeavesAll (old new : IndexState ℕ) (ids : List ℕ) : Type 0 where
  pub kept : (d i : ℕ) → is_among ids i ≡ false → IsUnder old d i → IsUnder new d i
  pub room : old.room ≤ new.room

-- There is memory for this count of further rows, in the list and in the index.
pub record HasMemoryFor (store : RowStore) (more : ℕ) : Type 0 where
  pub rows : vec_len store.rows + more ≤ vec_capacity store.rows
  pub index : more * length store.column_lists.items ≤ store.index.room

-- The index leads to each row, and the memory that the store has reserved is there.
pub record IsSound (store : RowStore) : Type 0 where
  pub indexed : IsIndexed store.column_lists.items store.rows.items store.index
  pub ready : HasMemoryFor store store.ready

-- The invariant of a table's store.
pub record IsStoreOf (schema : SchemaValue) (store : RowStore) (next_id : ℕ) : Type 0 where
  pub table : IsTable schema store.rows.items next_id
  pub sound : IsSound store
  pub column_lists : store.column_lists.items ≡ column_lists_of schema
