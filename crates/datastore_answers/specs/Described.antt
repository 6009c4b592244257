-- Tables as the bodies of calls describe them: by fields and a key, as in CKAN 2.10's DataStore, or by a descriptor
-- (Table Schema v1). Messages are the portal's own.
use Rattle.std.specs.Prelude.{ℕ, Bool, true, false, ◌&&◌, if◌then◌else◌, List, [], ◌∷◌, map, codes}
use Rattle.std.specs.Prelude.{Option, Some, None, option_map, Result, Ok, Err}
use Rattle.std.specs.Str.{bytes_eq}
use Rattle.portal_base.specs.KeyErrors.{KeyError, kind_message, error_if}
use Rattle.portal_base.specs.Json.{json_text}
use Rattle.portal_base.specs.Kinds.{list_at, message_of, present, text_at, texts_at}
use Rattle.portal_base.specs.declared.json_value.Json.{Json}
use Rattle.portal_base.specs.declared.json_value.Json as json
use Rattle.portal_base.specs.declared.kinds.KindFault.{KindFault}
use Rattle.packages.specs.Named.{Located}
use Rattle.packages.specs.Errors.{message_unless}
use Rattle.table_schema.specs.Field.{FieldValue, SchemaValue}
use Rattle.table_schema.specs.Form.{kind_of}
use Rattle.table_schema.specs.Keys.{schema_reading}
use Rattle.table_schema.specs.Messages.{schema_fault_text}
use Rattle.table_schema.specs.Values.{is_map}
use Rattle.table_schema.specs.Written.{name_at, schema_value, texts_value}
use Rattle.table_schema.specs.declared.fault.SchemaFault.{SchemaFault}
use Rattle.datastore_table.specs.Results.{◌>>>◌}
use Rattle.datastore_answers.specs.TableAnswers.{address_of}
use Rattle.datastore_answers.specs.Dictionary.{type_name}
use Rattle.datastore_answers.specs.Resolution.{resolved_targets}
use Rattle.datastore_answers.specs.Errors.{OrError, error_of}
use Rattle.datastore_answers.specs.declared.address.Address.{Address}
use Rattle.datastore_answers.specs.declared.resource_table.ResourceTable.{ResourceTable}

-- ---- fields as a descriptor

-- the value of an optional key of a body, or its fault
abbrev pub Given : Type 0 → Type 0
Given A = Result (Option A) KindFault

-- The type of Table Schema for a column's type. For an unknown type it is empty.
abbrev pub descriptor_type : List ℕ → List ℕ
descriptor_type name =
    if bytes_eq name (codes "text") then codes "string"
    else if bytes_eq name (codes "int") then codes "integer"
    else if bytes_eq name (codes "numeric") then codes "number"
    else if bytes_eq name (codes "float") then codes "number"
    else if bytes_eq name (codes "bool") then codes "boolean"
    else if bytes_eq name (codes "date") then codes "date"
    else if bytes_eq name (codes "time") then codes "time"
    else if bytes_eq name (codes "timestamp") then codes "datetime"
    else []

-- the name of a column, null if it isn't a text
abbrev pub name_given : Given (List ℕ) → Json
name_given (Ok (Some name)) = json.Text name
name_given other = json.Null

-- the type of a column: `text` by default, empty if it isn't a text
abbrev pub type_given : Given (List ℕ) → List ℕ
type_given (Ok (Some name)) = name
type_given (Ok None) = codes "text"
type_given (Err why) = []

-- a column as a field of a descriptor
abbrev pub descriptor_field : Json → Json
descriptor_field item =
    if is_map item
    then json.Map (
    (codes "name", name_given (text_at (codes "id") item))
    ∷ (codes "type", json.Text (descriptor_type (type_given (text_at (codes "type") item))))
    ∷ [])
    else json.Null

-- the descriptor of these columns and this key
abbrev pub descriptor_of : List Json → List (List ℕ) → Json
descriptor_of items key = json.Map (
    (codes "fields", json.List (map descriptor_field items))
    ∷ (codes "primaryKey", texts_value key)
    ∷ [])

-- ---- a table by a descriptor

-- the table without rows
abbrev pub empty_table : Address → SchemaValue → List ℕ → ResourceTable
empty_table address schema targets = record {
  address = address;
  targets = targets;
  table = record { schema = schema; rows = []; next_id = 1; room = 0 };
}

abbrev pub schema_or_error : Result SchemaValue SchemaFault → OrError SchemaValue
schema_or_error (Ok schema) = Ok schema
schema_or_error (Err why) = Err (schema_fault_text why)

-- The resource's table without rows, with the schema that a descriptor describes, or the descriptor's error.
abbrev pub table_of_descriptor : Located → List ResourceTable → Json → OrError ResourceTable
table_of_descriptor placed beside descriptor =
    schema_or_error (schema_reading descriptor) >>> λ schema.
    (resolved_targets placed beside schema >>> λ targets. Ok (empty_table (address_of placed) schema targets))

-- ---- a table by a body

-- the value if there are no errors, and else the errors
abbrev pub unless_errors : {A : Type 0} → List KeyError → OrError A → Result A (List KeyError)
unless_errors [] (Ok x) = Ok x
unless_errors errors read = Err errors

abbrev pub names_or_none : Given (List (List ℕ)) → List (List ℕ)
names_or_none (Ok (Some names)) = names
names_or_none other = []

abbrev pub both_given_text : List ℕ
both_given_text = codes "Give fields or schema, not both"

-- the error of a schema that is given together with fields
abbrev pub both_given_error : Option Json → Option (List ℕ)
both_given_error descriptor = option_map (λ _. both_given_text) descriptor

-- the table that fields and a key describe, given it or the fields' error
abbrev pub by_fields : Given (List (List ℕ)) → Option Json → OrError ResourceTable → Result ResourceTable (List KeyError)
by_fields key descriptor read =
    unless_errors
    (error_if (codes "schema") (both_given_error descriptor)
    (error_if (codes "fields") (error_of read) (error_if (codes "primary_key") (kind_message key) [])))
    read

-- the table that a descriptor describes without fields
abbrev pub by_schema : OrError ResourceTable → Result ResourceTable (List KeyError)
by_schema read = unless_errors (error_if (codes "schema") (error_of read) []) read

-- A new table: by fields and a key, or by a descriptor. With a descriptor alone the key is ignored.
abbrev pub described_new : Located → List ResourceTable → Given (List Json) → Given (List (List ℕ)) → Option Json
    → Result ResourceTable (List KeyError)
described_new placed beside (Ok None) key None = Err ((codes "fields", codes "Missing value") ∷ [])
described_new placed beside (Ok None) key (Some descriptor) = by_schema (table_of_descriptor placed beside descriptor)
described_new placed beside (Ok (Some items)) key descriptor =
    by_fields key descriptor (table_of_descriptor placed beside (descriptor_of items (names_or_none key)))
described_new placed beside (Err why) key descriptor = by_fields key descriptor (Err (message_of why))

-- ---- an existing table

abbrev pub other_fields : List ℕ
other_fields = codes "Table exists with other fields"

-- the type as replies print it
abbrev pub type_shown : List ℕ → List ℕ
type_shown name = if bytes_eq name (codes "float") then codes "numeric" else name

abbrev pub is_name : List ℕ → Given (List ℕ) → Bool
is_name name (Ok (Some given)) = bytes_eq given name
is_name name other = false

-- the column has the field's name and type
abbrev pub is_field : FieldValue → Json → Bool
is_field field item =
    is_name field.name (text_at (codes "id") item)
    && bytes_eq (type_shown (type_given (text_at (codes "type") item))) (type_name (kind_of field.form))

-- the columns are the fields in order
abbrev pub are_fields : List FieldValue → List Json → Bool
are_fields [] [] = true
are_fields (field ∷ fields) (item ∷ items) = is_field field item && are_fields fields items
are_fields fields items = false

-- these are the names of the fields with these indices, in order
abbrev pub are_names : List FieldValue → List ℕ → List (List ℕ) → Bool
are_names fields [] [] = true
are_names fields (index ∷ indices) (name ∷ names) = bytes_eq (name_at fields index) name
    && are_names fields indices names
are_names fields indices names = false

-- absent fields agree with every table
abbrev pub fields_fit : SchemaValue → Option (List Json) → Bool
fields_fit schema None = true
fields_fit schema (Some items) = are_fields schema.fields items

abbrev pub key_fits : SchemaValue → Given (List (List ℕ)) → Bool
key_fits schema (Ok (Some names)) = are_names schema.fields schema.key names
key_fits schema other = true

-- the error of `fields` for a table with this schema, which covers a key that differs from the table's
abbrev pub fields_error : SchemaValue → Given (List Json) → Given (List (List ℕ)) → Option (List ℕ)
fields_error schema (Ok items) key = message_unless (fields_fit schema items && key_fits schema key) other_fields
fields_error schema (Err why) key = Some (message_of why)

-- the descriptor reads as this schema: both have the same descriptor text
abbrev pub is_schema : SchemaValue → Result SchemaValue SchemaFault → Bool
is_schema schema (Ok read) = bytes_eq (json_text (schema_value read)) (json_text (schema_value schema))
is_schema schema (Err why) = false

abbrev pub descriptor_error : SchemaValue → Given (List Json) → Option Json → Option (List ℕ)
descriptor_error schema fields None = None
descriptor_error schema (Ok None) (Some descriptor) =
    message_unless (is_schema schema (schema_reading descriptor)) other_fields
descriptor_error schema fields (Some descriptor) = Some both_given_text

abbrev pub same_table_errors : SchemaValue → Given (List Json) → Given (List (List ℕ)) → Option Json → List KeyError
same_table_errors schema fields key descriptor =
    error_if (codes "schema") (descriptor_error schema fields descriptor)
    (error_if (codes "fields") (fields_error schema fields key) (error_if (codes "primary_key") (kind_message key) []))

-- ---- a body

-- the errors of a body for an existing table with this schema
abbrev pub existing_table_errors : SchemaValue → Json → List KeyError
existing_table_errors schema body =
    same_table_errors schema (list_at (codes "fields") body) (texts_at (codes "primary_key") body)
    (present (codes "schema") body)

-- The table that a body describes, or the body's errors. If the resource has a table, the body has to describe that
-- one.
abbrev pub described_table : Located → List ResourceTable → Json → Option ResourceTable
    → Result ResourceTable (List KeyError)
described_table placed beside body None =
    described_new placed beside (list_at (codes "fields") body) (texts_at (codes "primary_key") body)
    (present (codes "schema") body)
described_table placed beside body (Some t) = unless_errors (existing_table_errors t.table.schema body) (Ok t)
