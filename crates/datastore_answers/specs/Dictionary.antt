-- The dictionaries that describe tables in replies, with keys that ascend by bytes. Keys are those of CKAN 2.10's
-- DataStore.
use Rattle.std.specs.Prelude.{ℕ, pos, List, [], ◌∷◌, map, length, codes}
use Rattle.portal_base.specs.declared.json_value.Json.{Json}
use Rattle.portal_base.specs.declared.json_value.Json as json
use Rattle.table_schema.specs.Field.{FieldValue, SchemaValue}
use Rattle.table_schema.specs.Form.{kind_of}
use Rattle.table_schema.specs.Written.{names_value}
use Rattle.table_schema.specs.declared.form.Kind.{Kind}
use Rattle.table_schema.specs.declared.form.Kind.TheVariants as kind
use Rattle.datastore_table.specs.declared.method.Method.{Method}
use Rattle.datastore_table.specs.declared.method.Method.TheVariants as method
use Rattle.datastore_answers.specs.declared.resource_table.ResourceTable.{ResourceTable}

-- the type of a column
abbrev pub type_name : Kind → List ℕ
type_name kind.Text = codes "text"
type_name kind.Integer = codes "int"
type_name kind.Number = codes "numeric"
type_name kind.Boolean = codes "bool"
type_name kind.Date = codes "date"
type_name kind.Time = codes "time"
type_name kind.Datetime = codes "timestamp"
type_name kind.Year = codes "year"
type_name kind.YearMonth = codes "yearmonth"

abbrev pub field_dictionary : FieldValue → Json
field_dictionary field = json.Map (
    (codes "id", json.Text field.name)
    ∷ (codes "type", json.Text (type_name (kind_of field.form)))
    ∷ [])

-- the table's fields in the schema's order
abbrev pub fields_shown : SchemaValue → Json
fields_shown schema = json.List (map field_dictionary schema.fields)

-- the names of the key's fields
abbrev pub key_shown : SchemaValue → Json
key_shown schema = names_value schema.fields schema.key

-- the count of a table's rows, and its key
abbrev pub meta_dictionary : ℕ → Json → Json
meta_dictionary count key = json.Map (
    (codes "count", json.Whole (pos count))
    ∷ (codes "primary_key", key)
    ∷ [])

-- a table: its fields, the count of its rows, and its key
abbrev pub info_dictionary : ResourceTable → Json
info_dictionary t = json.Map (
    (codes "fields", fields_shown t.table.schema)
    ∷ (codes "meta", meta_dictionary (length t.table.rows) (key_shown t.table.schema))
    ∷ [])

-- these fields and this key of the table of the resource with this id
abbrev pub description_dictionary : Json → Json → List ℕ → Json
description_dictionary fields key resource = json.Map (
    (codes "fields", fields)
    ∷ (codes "primary_key", key)
    ∷ (codes "resource_id", json.Text resource)
    ∷ [])

-- the reply to the creation of a table, or to records for an existing one: its resource's id, its fields and its key
abbrev pub create_dictionary : List ℕ → SchemaValue → Json
create_dictionary resource schema = description_dictionary (fields_shown schema) (key_shown schema) resource

abbrev pub method_name : Method → List ℕ
method_name method.Upsert = codes "upsert"
method_name method.Insert = codes "insert"
method_name method.Update = codes "update"

-- the reply to a batch for the table of the resource with this id: the count of its records
abbrev pub upsert_dictionary : List ℕ → Method → List Json → Json
upsert_dictionary resource how records = json.Map (
    (codes "count", json.Whole (pos (length records)))
    ∷ (codes "method", json.Text (method_name how))
    ∷ (codes "resource_id", json.Text resource)
    ∷ [])

-- ---- deletions

-- the reply to the deletion of the table of the resource with this id
abbrev pub delete_dictionary : List ℕ → Json
delete_dictionary resource = json.Map ((codes "resource_id", json.Text resource) ∷ [])

-- the reply to the deletion of this count of rows from the table of the resource with this id
abbrev pub delete_rows_dictionary : ℕ → List ℕ → Json
delete_rows_dictionary count resource = json.Map (
    (codes "deleted", json.Whole (pos count))
    ∷ (codes "resource_id", json.Text resource)
    ∷ [])
