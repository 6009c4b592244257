-- References between rows (Table Schema v1, "Foreign keys"): a row has in some columns the key of a row of a table.
use Rattle.std.specs.Prelude.{ℕ, Bool, false, ◌&&◌, ◌||◌, not, if◌then◌else◌, List, []}
use Rattle.std.specs.Prelude.{slice_get, Option, Some, None, Result, Ok, Err}
use Rattle.std.specs.List.{list_any}
use Rattle.lexical_forms.specs.Digits.{is_empty}
use Rattle.table_schema.specs.declared.cell.Cell.{Cell}
use Rattle.table_schema.specs.declared.foreign.Foreign.{Foreign}
use Rattle.table_schema.specs.Field.{SchemaValue}
use Rattle.datastore_table.specs.declared.fault.TableFault.{TableFault}
use Rattle.datastore_table.specs.declared.fault.TableFault.TheVariants as fault
use Rattle.datastore_table.specs.declared.row.Row.{Row}
use Rattle.datastore_table.specs.Cells.{cells_at, has_null_at}
use Rattle.datastore_table.specs.Results.{in_turn}
use Rattle.datastore_table.specs.Rows.{has_cells, row_at}

-- a foreign key to the table itself
abbrev pub is_self : Foreign → Bool
is_self foreign = is_empty foreign.resource

-- The row refers to a row by these columns. A row with Null in one of them refers to nothing, and so does a row if
-- there are no columns.
abbrev pub refers : List ℕ → Row → Bool
refers columns row = not (is_empty columns || has_null_at columns row.cells)

-- one of the rows has this key
abbrev pub key_exists : List ℕ → List Cell → List Row → Bool
key_exists key cells rows = list_any (has_cells key cells) rows

-- the row refers to a row, and none of these rows has that key
abbrev pub is_broken : List ℕ → List ℕ → List Row → Row → Bool
is_broken columns key rows row = refers columns row && not (key_exists key (cells_at columns row.cells) rows)

abbrev pub is_broken_at : List ℕ → List ℕ → List Row → Option Row → Bool
is_broken_at columns key rows None = false
is_broken_at columns key rows (Some row) = is_broken columns key rows row

abbrev pub written_checked : List ℕ → List ℕ → List Row → List Row → ℕ → ℕ → Unit {0} → Result (Unit {0}) TableFault
written_checked columns key rows changed number id u =
    if is_broken_at columns key rows (row_at id changed) then Err (fault.Foreign number) else Ok tt

-- The check of one foreign key: the fault has the number of the first record whose row refers to none of the rows.
-- `written` has the `_id` of the row that each record wrote, and `changed` has those rows.
abbrev pub foreign_checked : List ℕ → List ℕ → List Row → List Row → List ℕ → Result (Unit {0}) TableFault
foreign_checked columns key rows changed written = in_turn (written_checked columns key rows changed) 1 written tt

abbrev pub fields_of : Option Foreign → List ℕ
fields_of None = []
fields_of (Some foreign) = foreign.fields

-- the columns of the foreign key at this index, from 0
abbrev pub foreign_fields : List Foreign → ℕ → List ℕ
foreign_fields foreigns index = fields_of (slice_get foreigns index)

abbrev pub self_reference_checked : List ℕ → List Row → List ℕ → ℕ → Foreign → Unit {0} → Result (Unit {0}) TableFault
self_reference_checked key rows written number foreign u =
    if is_self foreign then foreign_checked foreign.fields key rows rows written else Ok tt

-- the check of each self reference in the schema's order, for the rows that were written
abbrev pub self_references_checked : SchemaValue → List Row → List ℕ → Result (Unit {0}) TableFault
self_references_checked schema rows written = in_turn (self_reference_checked schema.key rows written) 0
    schema.foreign tt
