-- Batches of records, applied one after another to a list of rows (CKAN's `datastore_upsert`).
use Rattle.std.specs.Prelude.{ℕ, ◌+◌, nat_lt, Bool, true, false, ◌&&◌, ◌||◌, not, if◌then◌else◌, List, [], ◌∷◌, ◌++◌}
use Rattle.std.specs.Prelude.{fold, length, Option, Some, None, option_map, is_some, Result, Ok, Err}
use Rattle.std.specs.List.{list_any}
use Rattle.lexical_forms.specs.Digits.{is_empty}
use Rattle.portal_base.specs.declared.json_value.Json.{Json}
use Rattle.portal_base.specs.Ordered.{upserted}
use Rattle.table_schema.specs.declared.cell.Cell.{Cell}
use Rattle.table_schema.specs.Field.{FieldValue, SchemaValue}
use Rattle.datastore_table.specs.declared.fault.TableFault.{TableFault}
use Rattle.datastore_table.specs.declared.fault.TableFault.TheVariants as fault
use Rattle.datastore_table.specs.declared.method.Method.{Method}
use Rattle.datastore_table.specs.declared.method.Method.TheVariants as method
use Rattle.datastore_table.specs.declared.row.Row.{Row}
use Rattle.datastore_table.specs.Cells.{cell_at, has_null, has_null_at, same_cells}
use Rattle.datastore_table.specs.Record.{cells_reading, key_of, unknown_in}
use Rattle.datastore_table.specs.References.{self_references_checked}
use Rattle.datastore_table.specs.Results.{◌>>>◌, in_turn}
use Rattle.datastore_table.specs.Rows.{is_taken, row_cmp, row_with}
use Rattle.datastore_table.specs.Table.{TableValue}

-- The state of a batch: the rows after the records so far, the next `_id`, and the `_id` of the row that each record
-- wrote.
pub record Worked : Type 0 where
  pub rows : List Row
  pub next_id : ℕ
  pub written : List ℕ

-- ---- one record

-- the cells that the fields keep which a record lacks
abbrev pub kept_cells : Method → Option Row → Option (List Cell)
kept_cells method.Insert row = None
kept_cells other row = option_map (λ (r : Row). r.cells) row

abbrev pub unknown_fault : ℕ → Option (List ℕ) → Result (Unit {0}) TableFault
unknown_fault number None = Ok tt
unknown_fault number (Some name) = Err (fault.UnknownField number name)

abbrev pub missing_fault : ℕ → Bool → Result (Unit {0}) TableFault
missing_fault number missing = if missing then Err (fault.KeyMissing number) else Ok tt

abbrev pub id_of : Option Row → Option ℕ
id_of row = option_map (λ (r : Row). r.id) row

-- An insert requires that no row has the key. An update requires that a row has it.
abbrev pub key_fault : Method → ℕ → Option Row → Result (Unit {0}) TableFault
key_fault method.Insert number (Some row) = Err (fault.KeyTaken number)
key_fault method.Update number None = Err (fault.NoSuchKey number)
key_fault other number row = Ok tt

-- A unique field requires that no other row has the cell in its column.
abbrev pub unique_fault : ℕ → Option ℕ → List Cell → List Row → ℕ → FieldValue → Unit {0} → Result (Unit {0}) TableFault
unique_fault number except cells rows column field u =
    if field.constraints.unique && is_taken except column (cell_at cells column) rows
    then Err (fault.Unique number field.name) else Ok tt

-- The record's faults that come after those of its cells, in their order. `row` is the row with the record's key.
abbrev pub checked : Method → SchemaValue → ℕ → Json → Option Row → List Row → List Cell → Result (Unit {0}) TableFault
checked method schema number given row rows cells =
    unknown_fault number (unknown_in schema.fields given) >>> λ _.
    (missing_fault number (has_null_at schema.key cells) >>> λ _.
    (key_fault method number row >>> λ _.
    in_turn (unique_fault number (id_of row) cells rows) 0 schema.fields tt))

abbrev pub validated_against : Method → SchemaValue → ℕ → Json → Option Row → List Row
    → Result (Option ℕ × List Cell) TableFault
validated_against method schema number given row rows =
    cells_reading number schema.fields (kept_cells method row) given >>> λ cells.
    (checked method schema number given row rows cells >>> λ _. Ok (id_of row, cells))

-- The valid record: the `_id` of the row that has its key, if there is one, and its cells. Otherwise its first fault.
abbrev pub validated_record : Method → SchemaValue → ℕ → Json → List Row → Result (Option ℕ × List Cell) TableFault
validated_record method schema number given rows =
    validated_against method schema number given (row_with schema.key (key_of schema given) rows) rows

abbrev pub written_row : ℕ → List Cell → Row
written_row id cells = record { id = id; cells = cells }

-- the `_id` of the row, or the next one for a new row
abbrev pub row_id : Option ℕ → ℕ → ℕ
row_id (Some id) next_id = id
row_id None next_id = next_id

-- A new row uses up an `_id`.
abbrev pub next_after : Option ℕ → ℕ → ℕ
next_after (Some id) next_id = next_id
next_after None next_id = next_id + 1

-- The cells replace those of the row with this `_id`, or are those of a new row with the next `_id`.
abbrev pub with_cells : Option ℕ → List Cell → Worked → Worked
with_cells id cells work = record {
  rows = upserted row_cmp (written_row (row_id id work.next_id) cells) work.rows;
  next_id = next_after id work.next_id;
  written = work.written ++ row_id id work.next_id ∷ [];
}

-- The record with this number, from 1, replaces the row that has its key, or is a new row.
abbrev pub put_record : Method → SchemaValue → ℕ → Json → Worked → Result Worked TableFault
put_record method schema number given work =
    validated_record method schema number given work.rows >>> λ (validated : Option ℕ × List Cell).
    Ok (with_cells validated.0 validated.1 work)

-- ---- the whole batch

abbrev pub needs_key : Method → Bool
needs_key method.Insert = false
needs_key other = true

-- a key without Null that no row has
abbrev pub is_new_key : SchemaValue → List Row → List Cell → Bool
is_new_key schema rows key = not (has_null key || is_some (row_with schema.key key rows))

abbrev pub has_key : List (List Cell) → List Cell → Bool
has_key keys key = list_any (λ other. same_cells other key) keys

-- the keys with one more, if it is new and not yet in the list
abbrev pub with_key : SchemaValue → List Row → List (List Cell) → List Cell → List (List Cell)
with_key schema rows keys key =
    if is_new_key schema rows key && not (has_key keys key) then keys ++ key ∷ [] else keys

abbrev pub with_key_of : SchemaValue → List Row → List (List Cell) → Json → List (List Cell)
with_key_of schema rows keys given = with_key schema rows keys (key_of schema given)

-- the distinct keys of the records that have no Null and that no row has
abbrev pub new_keys : SchemaValue → List Row → List Json → List (List Cell)
new_keys schema rows records = fold (with_key_of schema rows) [] records

-- the count of rows after the batch
abbrev pub grown_length : Method → SchemaValue → List Row → List Json → ℕ
grown_length method.Insert schema rows records = length rows + length records
grown_length method.Upsert schema rows records = length rows + length (new_keys schema rows records)
grown_length method.Update schema rows records = length rows

-- the limit of rows in a table
abbrev pub most_rows : ℕ
most_rows = 1000000

-- The admission of the batch: the faults that come before those of any record.
abbrev pub admitted : Method → List Json → SchemaValue → List Row → Result (Unit {0}) TableFault
admitted method records schema rows =
    if needs_key method && is_empty schema.key then Err fault.NoKey
    else if nat_lt most_rows (grown_length method schema rows records) then Err fault.Full
    else Ok tt

abbrev pub begun : List Row → ℕ → Worked
begun rows next_id = record { rows = rows; next_id = next_id; written = [] }

-- The records are applied one after another. The first has this number.
abbrev pub put_from : Method → SchemaValue → ℕ → List Json → Worked → Result Worked TableFault
put_from method schema number records work = in_turn (put_record method schema) number records work

abbrev pub with_self_references : SchemaValue → Worked → Result Worked TableFault
with_self_references schema work = self_references_checked schema work.rows work.written >>> λ _. Ok work

-- The state after a batch, or the fault that refuses the batch.
abbrev pub put_records : Method → List Json → TableValue → Result Worked TableFault
put_records method records table =
    admitted method records table.schema table.rows >>> λ _.
    (put_from method table.schema 1 records (begun table.rows table.next_id) >>> with_self_references table.schema)
