-- Rows of a table as records by the names of its fields: the dictionaries for rows in the body of a call.
use Rattle.std.specs.Prelude.{List, map}
use Rattle.portal_base.specs.declared.json_value.Json.{Json}
use Rattle.row_records.specs.Records as row
use Rattle.row_records.specs.declared.columns.Column.{Column}
use Rattle.table_schema.specs.Field.{FieldValue}
use Rattle.table_schema.specs.declared.cell.Cell.{Cell}

-- the names of the fields, ascending by bytes, each with the index of its cell in a row
abbrev pub columns_of : List FieldValue → List Column
columns_of fields = row.columns_of (map (λ (f : FieldValue). f.name) fields)

-- A row as a record: the name of each field with the value of its cell, which is null if the row has no such cell.
abbrev pub record_of : List FieldValue → List Cell → Json
record_of fields cells = row.record_of (columns_of fields) cells
