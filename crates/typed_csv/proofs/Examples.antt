-- The definitions on worked examples.
use Rattle.std.proofs.Common.{◌≡◌, true, false, [], ◌∷◌, Some, None, refl, List}
use Rattle.std.specs.Prelude.{codes, pos, Ok, Err}
use lib.Utf8.{encode}
use Rattle.std.specs.Str.{chars, is_utf8}
use Rattle.csv.proofs.OnLiterals.{csv_on_literals}
use Rattle.csv.specs.Records.{field_at}
use Rattle.table_schema.specs.declared.cell.Cell.TheVariants as cell
use Rattle.table_schema.specs.declared.cell.CellFault.TheVariants.{NotOfType}
use Rattle.table_schema.specs.declared.form.Form.TheVariants as form
use Rattle.portal_base.specs.Calendar.{time_reading}
use Rattle.table_schema.specs.Constraint.{constraint_fault}
use Rattle.table_schema.specs.Descriptor.{no_constraints}
use Rattle.table_schema.specs.Field.{FieldValue}
use Rattle.table_schema.specs.Number.{integer_text_reading}
use Rattle.typed_csv.specs.declared.fault.LoadFault.TheVariants as fault
use Rattle.typed_csv.specs.Header.{bad_column, header_reading, layout_of}
use Rattle.typed_csv.specs.Rows.{row_reading, rows_of}

-- ---- a schema of whole numbers and times, where the empty text is missing

abbrev id_field : FieldValue
id_field = record {
  name = codes "id";
  form = form.Integer true;
  constraints = no_constraints;
  missing = [] ∷ [];
  in_key = false;
}

abbrev time_field : FieldValue
time_field = record id_field { name = codes "time"; form = form.Time }

abbrev schema : List FieldValue
schema = id_field ∷ time_field ∷ []

-- ---- headers

a_column_without_a_name : bad_column schema (codes "time" ∷ [] ∷ codes "id" ∷ [] ∷ []) ≡ None
a_column_without_a_name = refl

a_name_of_no_field : bad_column schema (codes "id" ∷ [] ∷ codes "note" ∷ codes "id" ∷ []) ≡ Some 2
a_name_of_no_field = refl

a_name_that_comes_twice : bad_column schema (codes "id" ∷ codes "id" ∷ codes "note" ∷ []) ≡ Some 1
a_name_that_comes_twice = refl

a_header : layout_of schema (codes "time" ∷ [] ∷ codes "id" ∷ []) ≡ record { width = 3; columns = Some 2 ∷ Some 0 ∷ [] }
a_header = refl

a_field_without_a_column : layout_of schema (codes "time" ∷ []) ≡ record { width = 1; columns = None ∷ Some 0 ∷ [] }
a_field_without_a_column = refl

no_header : header_reading schema [] ≡ Err (fault.Header 1)
no_header = refl

a_bad_header : header_reading schema ((codes "id" ∷ codes "ID" ∷ []) ∷ []) ≡ Err (fault.Header 2)
unfolding is_utf8 chars encode
a_bad_header = refl

a_header_that_is_no_text : header_reading schema (((255 ∷ []) ∷ []) ∷ []) ≡ Err (fault.NotUtf8 0)
unfolding is_utf8 chars encode
a_header_that_is_no_text = refl

-- ---- rows

a_row : row_reading schema (layout_of schema (codes "time" ∷ codes "id" ∷ [])) 1 (codes "00:00:05" ∷ codes "7" ∷ [])
    ≡ Ok (cell.Int (pos 7) ∷ cell.Time 5 ∷ [])
unfolding is_utf8 chars encode field_at integer_text_reading time_reading constraint_fault
a_row = refl

an_empty_text_where_no_column_is : row_reading schema (layout_of schema (codes "time" ∷ [])) 1 (codes "00:00:05" ∷ [])
    ≡ Ok (cell.Null ∷ cell.Time 5 ∷ [])
unfolding is_utf8 chars encode field_at integer_text_reading time_reading constraint_fault
an_empty_text_where_no_column_is = refl

-- Both cells are bad, and the header has `time` first, which the schema has last.
the_first_bad_cell_of_the_header : row_reading schema (layout_of schema (codes "time" ∷ codes "id" ∷ [])) 4
    (codes "x" ∷ codes "y" ∷ []) ≡ Err (fault.Cell 4 (codes "time") NotOfType)
unfolding is_utf8 chars encode field_at integer_text_reading time_reading constraint_fault
the_first_bad_cell_of_the_header = refl

-- The error of the width comes before that of a bad cell, and that of a record that isn't UTF-8 before both.
a_row_of_another_width : row_reading schema (layout_of schema (codes "time" ∷ codes "id" ∷ [])) 4 (codes "x" ∷ [])
    ≡ Err (fault.Width 4)
unfolding is_utf8 chars encode
a_row_of_another_width = refl

a_row_that_is_no_text : row_reading schema (layout_of schema (codes "time" ∷ codes "id" ∷ [])) 4 ((255 ∷ []) ∷ [])
    ≡ Err (fault.NotUtf8 4)
unfolding is_utf8 chars encode
a_row_that_is_no_text = refl

-- ---- texts

the_rows_of_a_text : rows_of schema (codes "time,id\n00:00:05,7\n,\n")
    ≡ Ok (record { rows = (cell.Int (pos 7) ∷ cell.Time 5 ∷ []) ∷ (cell.Null ∷ cell.Null ∷ []) ∷ []; fault = None })
unfolding csv_on_literals is_utf8 chars encode field_at integer_text_reading time_reading constraint_fault
the_rows_of_a_text = refl

-- Nothing is read after the bad second row.
rows_before_a_fault : rows_of schema (codes "id\n7\nx\n8\n")
    ≡ Ok (record
    { rows = (cell.Int (pos 7) ∷ cell.Null ∷ []) ∷ []; fault = Some (fault.Cell 2 (codes "id") NotOfType) })
unfolding csv_on_literals is_utf8 chars encode field_at integer_text_reading time_reading constraint_fault
rows_before_a_fault = refl
