-- The header of a text of CSV: its first record, which names the columns.
use Rattle.std.specs.Prelude.{ℕ, ◌+◌, Bool, not, ◌&&◌, ◌||◌, ◌==◌, if◌then◌else◌, List, [], ◌∷◌, ◌++◌, length, map}
use Rattle.std.specs.Prelude.{Option, Some, None, Result, Ok, Err}
use Rattle.std.specs.List.{list_any, position}
use Rattle.std.specs.Str.{bytes_eq}
use Rattle.table_schema.specs.Field.{FieldValue}
use Rattle.table_schema.specs.Truth.{is_among}
use Rattle.typed_csv.specs.declared.fault.LoadFault.{LoadFault}
use Rattle.typed_csv.specs.declared.fault.LoadFault.TheVariants.{Header, NotUtf8}
use Rattle.typed_csv.specs.declared.header.Layout.{Layout}
use Rattle.typed_csv.specs.Records.{is_text}

-- the name is that of a field
abbrev pub is_field_name : List FieldValue → List ℕ → Bool
is_field_name fields name = list_any (λ field. bytes_eq field.name name) fields

-- The name of a column is valid: it is empty, or it is the name of a field and of no earlier column. A column without a
-- name is skipped.
abbrev pub is_valid_column : List FieldValue → List (List ℕ) → List ℕ → Bool
is_valid_column fields before name =
    (length name == 0) || (is_field_name fields name && not (is_among before name))

-- the first later column with an invalid name, counted from 0
abbrev pub bad_column_from : List FieldValue → List (List ℕ) → List (List ℕ) → Option ℕ
bad_column_from fields before [] = None
bad_column_from fields before (name ∷ names) =
    if is_valid_column fields before name then bad_column_from fields (before ++ name ∷ []) names
    else Some (length before)

abbrev pub bad_column : List FieldValue → List (List ℕ) → Option ℕ
bad_column fields names = bad_column_from fields [] names

-- the column of this name, counted from 0
abbrev pub column_of : List (List ℕ) → List ℕ → Option ℕ
column_of names name = position (λ column. bytes_eq column name) names

-- the count of columns, and the column that each field is read from
abbrev pub layout_of : List FieldValue → List (List ℕ) → Layout
layout_of fields names = record { width = length names; columns = map (λ field. column_of names field.name) fields }

-- the layout, or the error of a column with an invalid name, which is numbered from 1
abbrev pub or_layout : Layout → Option ℕ → Result Layout LoadFault
or_layout layout None = Ok layout
or_layout layout (Some column) = Err (Header (column + 1))

abbrev pub header_layout : List FieldValue → List (List ℕ) → Result Layout LoadFault
header_layout fields names = or_layout (layout_of fields names) (bad_column fields names)

-- The layout that the first record gives. If there are no records, the error names column 1.
abbrev pub header_reading : List FieldValue → List (List (List ℕ)) → Result Layout LoadFault
header_reading fields [] = Err (Header 1)
header_reading fields (names ∷ records) = if is_text names then header_layout fields names else Err (NotUtf8 0)
