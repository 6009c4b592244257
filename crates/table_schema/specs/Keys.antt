-- A descriptor's missing values, primary key and foreign keys (Table Schema v1, "Other properties"), and its schema.
use Rattle.std.specs.Prelude.{ℕ, suc, ◌==◌, Bool, true, false, ◌&&◌, ◌||◌, not, if◌then◌else◌, List, [], ◌∷◌, ◌++◌}
use Rattle.std.specs.Prelude.{length, codes, slice_get, Option, Some, None, option_map, Result, Ok, Err}
use Rattle.std.specs.List.{list_any}
use Rattle.std.specs.Str.{bytes_eq}
use Rattle.portal_base.specs.declared.json_value.Json.{Json}
use Rattle.portal_base.specs.declared.json_value.JsonFault.{JsonFault}
use Rattle.portal_base.specs.Json.{json_reading}
use Rattle.table_schema.specs.declared.column.Column.{Column}
use Rattle.table_schema.specs.declared.fault.SchemaFault.{SchemaFault}
use Rattle.table_schema.specs.declared.fault.SchemaFault.TheVariants.{NotJson, BadKey}
use Rattle.table_schema.specs.declared.form.Kind.{Kind}
use Rattle.table_schema.specs.declared.form.Kind.TheVariants as kind
use Rattle.table_schema.specs.declared.foreign.Foreign.{Foreign}
use Rattle.table_schema.specs.Descriptor.{field_items, columns_reading}
use Rattle.lexical_forms.specs.Digits.{is_empty}
use Rattle.table_schema.specs.Field.{FieldValue, SchemaValue}
use Rattle.table_schema.specs.Form.{kind_of}
use Rattle.portal_base.specs.Kinds.{present, text_in, list_in}
use Rattle.table_schema.specs.Values.{◌>>=◌, ◌>>>◌, or_fault, dictionary_in, all_of, texts_in, names_in, or_default}

-- The missing values are the empty text alone by default.
abbrev pub missing_in : Json → Option (List (List ℕ))
missing_in value = or_default texts_in ([] ∷ []) (present (codes "missingValues") value)

-- the index of the field of that name, counted from 0
abbrev pub index_of : List Column → List ℕ → Option ℕ
index_of [] name = None
index_of (column ∷ columns) name =
    if bytes_eq column.name name then Some 0 else option_map suc (index_of columns name)

abbrev pub is_new : List ℕ → ℕ → Bool
is_new indices index = not (list_any (λ p. p == index) indices)

-- The indices of fields by their names. Each names a field that no earlier one names.
abbrev pub indices_from : List Column → List ℕ → List (List ℕ) → Option (List ℕ)
indices_from columns before [] = Some []
indices_from columns before (name ∷ names) =
    index_of columns name >>= λ index.
    (if is_new before index then option_map (λ indices. index ∷ indices)
    (indices_from columns (before ++ index ∷ []) names)
    else None)

abbrev pub indices_of : List Column → List (List ℕ) → Option (List ℕ)
indices_of columns names = indices_from columns [] names

-- the indices of the fields that a text or a list of texts names
abbrev pub indices_in : List Column → Json → Option (List ℕ)
indices_in columns value = names_in value >>= indices_of columns

-- The primary key has no fields by default.
abbrev pub key_in : List Column → Json → Option (List ℕ)
key_in columns value = or_default (indices_in columns) [] (present (codes "primaryKey") value)

abbrev pub same_kind : Kind → Kind → Bool
same_kind kind.Text kind.Text = true
same_kind kind.Integer kind.Integer = true
same_kind kind.Number kind.Number = true
same_kind kind.Boolean kind.Boolean = true
same_kind kind.Date kind.Date = true
same_kind kind.Time kind.Time = true
same_kind kind.Datetime kind.Datetime = true
same_kind kind.Year kind.Year = true
same_kind kind.YearMonth kind.YearMonth = true
same_kind a b = false

-- The field can refer to the target in the same table: the target has this name and the same type.
abbrev pub refers : Option Column → Option Column → List ℕ → Bool
refers None target name = false
refers (Some field) None name = false
refers (Some field) (Some target) name =
    bytes_eq target.name name && same_kind (kind_of field.form) (kind_of target.form)

-- The target is the whole key in order, with the same types.
abbrev pub refers_to_key : List Column → List ℕ → List ℕ → List (List ℕ) → Bool
refers_to_key columns [] [] [] = true
refers_to_key columns (index ∷ indices) (k ∷ key) (name ∷ target) =
    refers (slice_get columns index) (slice_get columns k) name && refers_to_key columns indices key target
refers_to_key columns indices key target = false

abbrev pub foreign_key_of : List Column → List ℕ → List ℕ → List ℕ → List (List ℕ) → Option Foreign
foreign_key_of columns key indices resource target =
    if (length indices == length target) && (not (is_empty resource) || refers_to_key columns indices key target)
    then Some (record { fields = indices; resource = resource; target = target }) else None

abbrev pub reference_in : Json → Option Json
reference_in item = present (codes "reference") item >>= dictionary_in

-- A reference without a resource is a reference to the same table.
abbrev pub resource_in : Json → Option (List ℕ)
resource_in reference = or_default text_in [] (present (codes "resource") reference)

abbrev pub target_in : Json → Option (List (List ℕ))
target_in reference = present (codes "fields") reference >>= names_in

-- The foreign key of a dictionary.
abbrev pub foreign_key_in : List Column → List ℕ → Json → Option Foreign
foreign_key_in columns key item =
    present (codes "fields") item >>= indices_in columns >>= λ indices.
    (reference_in item >>= λ reference.
    (resource_in reference >>= λ resource.
    (target_in reference >>= λ target. foreign_key_of columns key indices resource target)))

abbrev pub foreign_keys_in : List Column → List ℕ → Json → Option (List Foreign)
foreign_keys_in columns key value =
    or_default (λ items. list_in items >>= all_of (foreign_key_in columns key)) [] (present (codes "foreignKeys") value)

-- the field at this index
abbrev pub field_of : List (List ℕ) → List ℕ → ℕ → Column → FieldValue
field_of missing key index column = record {
  name = column.name;
  form = column.form;
  constraints = column.constraints;
  missing = missing;
  in_key = list_any (λ k. k == index) key;
}

abbrev pub fields_from : List (List ℕ) → List ℕ → ℕ → List Column → List FieldValue
fields_from missing key index [] = []
fields_from missing key index (column ∷ columns) =
    field_of missing key index column ∷ fields_from missing key (suc index) columns

abbrev pub schema_of : List Column → List (List ℕ) → List ℕ → List Foreign → SchemaValue
schema_of columns missing key foreign = record {
  fields = fields_from missing key 0 columns;
  key = key;
  foreign = foreign;
  missing = missing;
}

abbrev pub schema_with_keys : List Column → Json → Option SchemaValue
schema_with_keys columns value =
    missing_in value >>= λ missing.
    (key_in columns value >>= λ key.
    (foreign_keys_in columns key value >>= λ foreign. Some (schema_of columns missing key foreign)))

-- the fields of a descriptor
abbrev pub columns_in : Json → Result (List Column) SchemaFault
columns_in value = field_items value >>> columns_reading 1 []

-- The schema of a descriptor, or its first error: that of its fields in order, and then that of its keys.
unfoldable pub schema_reading : Json → Result SchemaValue SchemaFault
schema_reading value = columns_in value >>> λ columns. or_fault BadKey (schema_with_keys columns value)

abbrev pub of_parsed : Result Json JsonFault → Result SchemaValue SchemaFault
of_parsed (Err fault) = Err NotJson
of_parsed (Ok value) = schema_reading value

-- the schema of a descriptor's bytes, which must be JSON whose numbers are whole numbers of 64 bits
abbrev pub bytes_reading : List ℕ → Result SchemaValue SchemaFault
bytes_reading bytes = of_parsed (json_reading bytes)
