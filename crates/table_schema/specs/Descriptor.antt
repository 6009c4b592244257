-- The fields of a descriptor (Table Schema v1, "Field descriptors"), and their errors in order.
use Rattle.std.specs.Prelude.{ℕ, suc, ◌^◌, nat_le, nat_lt, Bool, true, false, ◌&&◌, if◌then◌else◌, List, [], ◌∷◌, ◌++◌}
use Rattle.std.specs.Prelude.{length}
use Rattle.std.specs.Prelude.{codes, Option, Some, None, option_map, is_some, Result, Ok, Err, ℤ, pos, negsuc}
use Rattle.std.specs.List.{list_all}
use Rattle.std.specs.Str.{bytes_eq, chars}
use Rattle.portal_base.specs.declared.json_value.Json.{Json}
use Rattle.table_schema.specs.declared.cell.Cell.{Cell}
use Rattle.table_schema.specs.declared.column.Column.{Column}
use Rattle.table_schema.specs.declared.constraint.Constraints.{Constraints}
use Rattle.table_schema.specs.declared.fault.SchemaFault.{SchemaFault}
use Rattle.table_schema.specs.declared.fault.SchemaFault.TheVariants.{NotJson, NoFields, UnknownKind, BadConstraint}
use Rattle.table_schema.specs.declared.fault.SchemaFault.TheVariants.{RepeatedName, Unsupported, BadName}
use Rattle.table_schema.specs.declared.form.Form.{Form}
use Rattle.table_schema.specs.declared.form.Form.TheVariants as form
use Rattle.table_schema.specs.declared.form.Kind.{Kind}
use Rattle.table_schema.specs.declared.form.Kind.TheVariants as kind
use Rattle.lexical_forms.specs.declared.form.NumberForm.{NumberForm}
use Rattle.lexical_forms.specs.FieldName.{is_field_name}
use Rattle.lexical_forms.specs.Separator.{separator_of}
use Rattle.lexical_forms.specs.Number.{is_same_character}
use Rattle.table_schema.specs.Reading.{value_reading}
use Rattle.table_schema.specs.Truth.{is_among, default_trues, default_falses}
use Rattle.portal_base.specs.Kinds.{present, text_in, list_in}
use Rattle.table_schema.specs.Values.{◌>>=◌, ◌>>>◌, or_fault, is_map, dictionary_in, truth_in, whole_in, all_of}
use Rattle.table_schema.specs.Values.{texts_in, or_default, optional}

-- ---- the list of fields

abbrev pub dictionaries : List Json → Option (List Json)
dictionaries items =
    if nat_le 1 (length items) && nat_le (length items) 500 && list_all is_map items then Some items else None

-- 1 to 500 dictionaries
abbrev pub field_items : Json → Result (List Json) SchemaFault
field_items value =
    if is_map value then or_fault NoFields (present (codes "fields") value >>= list_in >>= dictionaries)
    else Err NotJson

-- ---- a field's name

abbrev pub named : ℕ → List ℕ → Result (List ℕ) SchemaFault
named number name = if is_field_name name then Ok name else Err (BadName number)

abbrev pub name_reading : ℕ → Json → Result (List ℕ) SchemaFault
name_reading number item =
    or_fault (BadName number) (present (codes "name") item >>= text_in) >>> named number

abbrev pub new_name : ℕ → List (List ℕ) → List ℕ → Result (List ℕ) SchemaFault
new_name number names name = if is_among names name then Err (RepeatedName number) else Ok name

-- The reading is the error that names what isn't supported.
abbrev pub NamesUnsupported : {A : Type 0} → Result A SchemaFault → Type 0
NamesUnsupported (Err (Unsupported name)) = Unit {0}
NamesUnsupported other = ⊥

-- ---- its type

abbrev pub supported : List ℕ → Option Kind
supported name =
    if bytes_eq name (codes "string") then Some kind.Text
    else if bytes_eq name (codes "any") then Some kind.Text
    else if bytes_eq name (codes "integer") then Some kind.Integer
    else if bytes_eq name (codes "number") then Some kind.Number
    else if bytes_eq name (codes "boolean") then Some kind.Boolean
    else if bytes_eq name (codes "date") then Some kind.Date
    else if bytes_eq name (codes "time") then Some kind.Time
    else if bytes_eq name (codes "datetime") then Some kind.Datetime
    else if bytes_eq name (codes "year") then Some kind.Year
    else if bytes_eq name (codes "yearmonth") then Some kind.YearMonth
    else None

-- the types of Table Schema that aren't supported
abbrev pub unsupported_types : List (List ℕ)
unsupported_types =
    codes "object" ∷ codes "array" ∷ codes "duration" ∷ codes "geopoint" ∷ codes "geojson" ∷ []

abbrev pub kind_fault : ℕ → List ℕ → SchemaFault
kind_fault number name = if is_among unsupported_types name then Unsupported name else UnknownKind number

abbrev pub kind_named : ℕ → List ℕ → Result Kind SchemaFault
kind_named number name = or_fault (kind_fault number name) (supported name)

-- The type is `string` by default.
abbrev pub kind_reading : ℕ → Json → Result Kind SchemaFault
kind_reading number item =
    or_fault (UnknownKind number) (or_default text_in (codes "string") (present (codes "type") item))
    >>> kind_named number

-- ---- formats and patterns, which aren't supported

abbrev pub default_format : List ℕ → Result Bool SchemaFault
default_format format = if bytes_eq format (codes "default") then Ok true else Err (Unsupported format)

-- Every format but `default` is unsupported.
abbrev pub format_reading : Json → Result Bool SchemaFault
format_reading item =
    or_fault (Unsupported (codes "format")) (or_default text_in (codes "default") (present (codes "format") item))
    >>> default_format

-- the constraint `pattern`
abbrev pub has_pattern : Json → Bool
has_pattern item = is_some (present (codes "constraints") item >>= present (codes "pattern"))

abbrev pub pattern_reading : Json → Result Bool SchemaFault
pattern_reading item = if has_pattern item then Err (Unsupported (codes "pattern")) else Ok true

-- ---- its options

-- A text of one character that is no digit, no sign and neither `e` nor `E`.
abbrev pub mark_in : Json → Option ℕ
mark_in value = text_in value >>= λ text. separator_of (chars text)

abbrev pub spelling_of : ℕ → Option ℕ → Bool → Option NumberForm
spelling_of decimal group bare =
    if is_same_character group decimal then None else Some (record { decimal = decimal; group = group; bare = bare })

abbrev pub bare_number_in : Json → Option Bool
bare_number_in item = or_default truth_in true (present (codes "bareNumber") item)

abbrev pub spelling_in : Json → Option NumberForm
spelling_in item =
    or_default mark_in 46 (present (codes "decimalChar") item) >>= λ decimal.
    (optional mark_in (present (codes "groupChar") item) >>= λ group.
    (bare_number_in item >>= λ bare. spelling_of decimal group bare))

abbrev pub truths_in : Json → Option Form
truths_in item =
    or_default texts_in default_trues (present (codes "trueValues") item) >>= λ trues.
    (or_default texts_in default_falses (present (codes "falseValues") item) >>= λ falses.
    Some (form.Boolean (record { true_values = trues; false_values = falses })))

-- Options of other types are ignored.
abbrev pub form_in : Kind → Json → Option Form
form_in kind.Text item = Some form.Text
form_in kind.Integer item = option_map form.Integer (bare_number_in item)
form_in kind.Number item = option_map form.Number (spelling_in item)
form_in kind.Boolean item = truths_in item
form_in kind.Date item = Some form.Date
form_in kind.Time item = Some form.Time
form_in kind.Datetime item = Some form.Datetime
form_in kind.Year item = Some form.Year
form_in kind.YearMonth item = Some form.YearMonth

-- ---- its constraints

abbrev pub has_length : Kind → Bool
has_length kind.Text = true
has_length other = false

abbrev pub has_order : Kind → Bool
has_order kind.Text = false
has_order kind.Boolean = false
has_order other = true

-- a whole number from 0 that fits a `u64`
abbrev pub count_of : ℤ → Option ℤ
count_of (pos n) = if nat_lt n (2 ^ 64) then Some (pos n) else None
count_of (negsuc n) = None

-- such a number, for a type that has lengths
abbrev pub length_in : Kind → Json → Option ℤ
length_in k value = if has_length k then (whole_in value >>= count_of) else None

-- a value of the type, if the type has an order
abbrev pub bound_in : Kind → Json → Option Cell
bound_in k value = if has_order k then value_reading k value else None

abbrev pub some_of : {A : Type 0} → List A → Option (List A)
some_of [] = None
some_of (x ∷ xs) = Some (x ∷ xs)

-- values of the type, and at least one
abbrev pub allowed_in : Kind → Json → Option (List Cell)
allowed_in k value = list_in value >>= some_of >>= all_of (value_reading k)

abbrev pub no_constraints : Constraints
no_constraints = record {
  required = false;
  unique = false;
  min_length = None;
  max_length = None;
  minimum = None;
  maximum = None;
  allowed = [];
}

abbrev pub constraints_in : Kind → Json → Option Constraints
constraints_in k value =
    or_default truth_in false (present (codes "required") value) >>= λ required.
    (or_default truth_in false (present (codes "unique") value) >>= λ unique.
    (optional (length_in k) (present (codes "minLength") value) >>= λ min_length.
    (optional (length_in k) (present (codes "maxLength") value) >>= λ max_length.
    (optional (bound_in k) (present (codes "minimum") value) >>= λ minimum.
    (optional (bound_in k) (present (codes "maximum") value) >>= λ maximum.
    (or_default (allowed_in k) [] (present (codes "enum") value) >>= λ allowed.
    Some (record {
      required = required;
      unique = unique;
      min_length = min_length;
      max_length = max_length;
      minimum = minimum;
      maximum = maximum;
      allowed = allowed;
    })))))))

abbrev pub constraints_of : Kind → Json → Option Constraints
constraints_of k item =
    or_default (λ value. dictionary_in value >>= constraints_in k) no_constraints (present (codes "constraints") item)

-- ---- a field, and all of them

abbrev pub column_of : List ℕ → Kind → Json → Option Column
column_of name k item =
    form_in k item >>= λ spelling.
    (constraints_of k item >>= λ constraints.
    Some (record { name = name; form = spelling; constraints = constraints }))

-- The field of this number, counted from 1, after fields of these names. The errors come in this order: its name, a
-- repeated name, its type, an unsupported format or pattern, and its options and constraints.
unfoldable pub column_reading : ℕ → List (List ℕ) → Json → Result Column SchemaFault
column_reading number names item =
    name_reading number item >>> new_name number names >>> λ name.
    (kind_reading number item >>> λ k.
    (format_reading item >>> λ format.
    (pattern_reading item >>> λ pattern.
    or_fault (BadConstraint number) (column_of name k item))))

-- the fields, the first of which has this number, after fields of these names
abbrev pub columns_reading : ℕ → List (List ℕ) → List Json → Result (List Column) SchemaFault
columns_reading number names [] = Ok []
columns_reading number names (item ∷ items) =
    column_reading number names item >>> λ column.
    (columns_reading (suc number) (names ++ column.name ∷ []) items >>> λ columns. Ok (column ∷ columns))
