-- The descriptor that a schema is written as. The keys ascend by their bytes.
use Rattle.std.specs.Prelude.{◌≡◌, ℕ, Bool, true, if◌then◌else◌, List, [], ◌∷◌, ◌++◌, map, codes, slice_get, Option}
use Rattle.std.specs.Prelude.{Some, None, option_map, unwrap_or, Ok}
use Rattle.std.specs.Char.{encode_utf8}
use Rattle.portal_base.specs.declared.json_value.Json as json
use Rattle.portal_base.specs.declared.json_value.Json.{Json}
use Rattle.table_schema.specs.declared.cell.Cell.{Cell}
use Rattle.table_schema.specs.declared.constraint.Constraints.{Constraints}
use Rattle.table_schema.specs.declared.foreign.Foreign.{Foreign}
use Rattle.table_schema.specs.declared.form.Form.{Form}
use Rattle.table_schema.specs.declared.form.Form.TheVariants as form
use Rattle.table_schema.specs.declared.form.Kind.{Kind}
use Rattle.table_schema.specs.declared.form.Kind.TheVariants as kind
use Rattle.table_schema.specs.Field.{FieldValue, SchemaValue}
use Rattle.table_schema.specs.Form.{kind_of}
use Rattle.table_schema.specs.Keys.{schema_reading}
use Rattle.table_schema.specs.Printed.{cell_value}

abbrev pub MemberList : Type 0
MemberList = List (List ℕ × Json)

abbrev pub texts_value : List (List ℕ) → Json
texts_value texts = json.List (map json.Text texts)

-- the name of a type
abbrev pub kind_name : Kind → List ℕ
kind_name kind.Text = codes "string"
kind_name kind.Integer = codes "integer"
kind_name kind.Number = codes "number"
kind_name kind.Boolean = codes "boolean"
kind_name kind.Date = codes "date"
kind_name kind.Time = codes "time"
kind_name kind.Datetime = codes "datetime"
kind_name kind.Year = codes "year"
kind_name kind.YearMonth = codes "yearmonth"

-- a member, if there is a value
abbrev pub member_where : {A : Type 0} → List ℕ → (A → Json) → Option A → MemberList
member_where key value None = []
member_where key value (Some x) = (key, value x) ∷ []

-- a truth value that is written only if it is true
abbrev pub member_if : List ℕ → Bool → MemberList
member_if key b = if b then (key, json.Truth true) ∷ [] else []

abbrev pub allowed_member : List Cell → MemberList
allowed_member [] = []
allowed_member (c ∷ cells) = (codes "enum", json.List (map cell_value (c ∷ cells))) ∷ []

-- only the constraints that the field has
abbrev pub constraints_value : Constraints → Json
constraints_value constraints = json.Map (
    allowed_member constraints.allowed
    ++ member_where (codes "maxLength") json.Whole constraints.max_length
    ++ member_where (codes "maximum") cell_value constraints.maximum
    ++ member_where (codes "minLength") json.Whole constraints.min_length
    ++ member_where (codes "minimum") cell_value constraints.minimum
    ++ member_if (codes "required") constraints.required
    ++ member_if (codes "unique") constraints.unique)

-- By the order of keys, the options of a type come before `constraints`, between `constraints` and `format`, between
-- `format` and `name`, or between `name` and `type`.
abbrev pub bare_number_member : Form → MemberList
bare_number_member (form.Integer bare) = (codes "bareNumber", json.Truth bare) ∷ []
bare_number_member (form.Number spelling) = (codes "bareNumber", json.Truth spelling.bare) ∷ []
bare_number_member other = []

abbrev pub character_value : ℕ → Json
character_value c = json.Text (encode_utf8 c)

abbrev pub options_before_format : Form → MemberList
options_before_format (form.Number spelling) = (codes "decimalChar", character_value spelling.decimal) ∷ []
options_before_format (form.Boolean truths) = (codes "falseValues", texts_value truths.false_values) ∷ []
options_before_format other = []

abbrev pub options_before_name : Form → MemberList
options_before_name (form.Number spelling) = member_where (codes "groupChar") character_value spelling.group
options_before_name other = []

abbrev pub options_before_type : Form → MemberList
options_before_type (form.Boolean truths) = (codes "trueValues", texts_value truths.true_values) ∷ []
options_before_type other = []

abbrev pub field_value : FieldValue → Json
field_value field = json.Map (
    bare_number_member field.form
    ++ (codes "constraints", constraints_value field.constraints) ∷ []
    ++ options_before_format field.form
    ++ (codes "format", json.Text (codes "default")) ∷ []
    ++ options_before_name field.form
    ++ (codes "name", json.Text field.name) ∷ []
    ++ options_before_type field.form
    ++ (codes "type", json.Text (kind_name (kind_of field.form))) ∷ [])

-- the name of the field at an index, and the empty text if there is none
abbrev pub name_at : List FieldValue → ℕ → List ℕ
name_at fields index = unwrap_or (option_map (λ field. field.name) (slice_get fields index)) []

abbrev pub names_value : List FieldValue → List ℕ → Json
names_value fields indices = texts_value (map (name_at fields) indices)

abbrev pub reference_value : Foreign → Json
reference_value foreign = json.Map (
    (codes "fields", texts_value foreign.target)
    ∷ (codes "resource", json.Text foreign.resource)
    ∷ [])

abbrev pub foreign_key_value : List FieldValue → Foreign → Json
foreign_key_value fields foreign = json.Map (
    (codes "fields", names_value fields foreign.fields)
    ∷ (codes "reference", reference_value foreign)
    ∷ [])

unfoldable pub schema_value : SchemaValue → Json
schema_value schema = json.Map (
    (codes "fields", json.List (map field_value schema.fields))
    ∷ (codes "foreignKeys", json.List (map (foreign_key_value schema.fields) schema.foreign))
    ∷ (codes "missingValues", texts_value schema.missing)
    ∷ (codes "primaryKey", names_value schema.fields schema.key)
    ∷ [])

-- The schema's own descriptor reads as it. So its names are distinct, its keys name fields that it has, and a foreign
-- key to the table itself names the whole primary key in order, with fields of equal types.
abbrev pub IsDescribed : SchemaValue → Type 0
IsDescribed schema = schema_reading (schema_value schema) ≡ Ok schema
