-- Worked examples: the messages of faults, methods and records; the table at an address after a change; the tables
-- that bodies describe, and the resources that foreign keys reference.
use Rattle.std.proofs.Common.{◌≡◌, ℕ, true, false, List, [], ◌∷◌, ◌++◌, Some, None, Ok, Err, refl, rules}
use Rattle.std.specs.Prelude.{codes, pos}
use Rattle.packages.specs.Named.{Located}
use Rattle.packages.specs.declared.package.Resource.{Resource}
use Rattle.portal_base.specs.declared.json_value.Json.{Json, the_lemmas}
use Rattle.portal_base.specs.declared.json_value.Json as json
use Rattle.portal_base.specs.declared.kinds.KindFault.TheVariants.{NotList, NotTexts}
use Rattle.portal_calls.specs.declared.answer.Answer.{Answer}
use Rattle.portal_calls.specs.declared.answer.Answer.TheVariants.{Refused}
use Rattle.portal_calls.specs.declared.answer.Denial.TheVariants.{Validation}
use Rattle.portal_calls.specs.declared.answer.Quota.TheVariants as quota
use Rattle.table_schema.specs.Descriptor.{no_constraints}
use Rattle.table_schema.specs.Field.{FieldValue, SchemaValue}
use Rattle.table_schema.specs.declared.foreign.Foreign.{Foreign}
use Rattle.table_schema.specs.declared.form.Form.TheVariants as form
use Rattle.datastore_table.specs.declared.fault.TableFault.TheVariants as fault
use Rattle.datastore_table.specs.declared.method.Method.TheVariants as method
use Rattle.datastore_answers.specs.Answers.{create_answer_for}
use Rattle.datastore_answers.specs.Changed as change
use Rattle.datastore_answers.specs.Changed.{TableChange, changed_tables}
use Rattle.datastore_answers.specs.Described.{by_fields, described_new, descriptor_field, fields_error, is_field}
use Rattle.datastore_answers.specs.Described.{same_table_errors, descriptor_type}
use Rattle.datastore_answers.specs.Resolution.{fitting, link_text, table_named}
use Rattle.datastore_answers.specs.Errors.{fault_text, read_method, read_records, row_text}
use Rattle.datastore_answers.specs.Tables.{table_at, tables_in}
use Rattle.datastore_answers.specs.declared.resource_table.ResourceTable.{ResourceTable}

-- ---- faults

full : fault_text fault.Full ≡ codes "Table is full"
full = refl

key_taken : fault_text (fault.KeyTaken 2) ≡ row_text 2 ++ codes ": key taken"
key_taken = refl

-- ---- methods

-- upsert by default
upsert : read_method (0 ∷ []) (json.Map []) ≡ Ok method.Upsert
upsert = search (rules, the_lemmas)

keyless : read_method [] (json.Map []) ≡ Err (codes "Table has no key")
keyless = search (rules, the_lemmas)

insert : read_method [] (json.Map ((codes "method", json.Text (codes "insert")) ∷ [])) ≡ Ok method.Insert
insert = search (rules, the_lemmas)

unknown : read_method [] (json.Map ((codes "method", json.Text (codes "replace")) ∷ []))
    ≡ Err (codes "Method must be upsert, insert or update")
unknown = search (rules, the_lemmas)

-- ---- records

-- null counts as absent
none : read_records (json.Map ((codes "records", json.Null) ∷ [])) ≡ Ok []
none = search (rules, the_lemmas)

second : read_records (json.Map ((codes "records", json.List (json.Map [] ∷ json.Text (codes "a") ∷ [])) ∷ []))
    ≡ Err (row_text 2 ++ codes ": not a dictionary")
second = search (rules, the_lemmas)

-- ---- columns

float : descriptor_type (codes "float") ≡ codes "number"
float = refl

-- the types of columns aren't those of descriptors
string : descriptor_type (codes "string") ≡ []
string = refl

-- a column without a type holds texts
untyped : descriptor_field (json.Map ((codes "id", json.Text (codes "k")) ∷ []))
    ≡ json.Map ((codes "name", json.Text (codes "k")) ∷ (codes "type", json.Text (codes "string")) ∷ [])
untyped = search (rules, the_lemmas)

nameless : descriptor_field (json.Map ((codes "id", json.Whole (pos 5)) ∷ (codes "type", json.Text (codes "int")) ∷ []))
    ≡ json.Map ((codes "name", json.Null) ∷ (codes "type", json.Text (codes "integer")) ∷ [])
nameless = search (rules, the_lemmas)

no_column : descriptor_field (json.Text (codes "k")) ≡ json.Null
no_column = search (rules, the_lemmas)

-- ---- descriptions

abbrev number_field : FieldValue
number_field = record {
  name = codes "v";
  form = form.Number (record { decimal = 46; group = None; bare = true });
  constraints = no_constraints;
  missing = [];
  in_key = false;
}

abbrev unkeyed : SchemaValue
unkeyed = record { fields = number_field ∷ []; key = []; foreign = []; missing = [] }

-- Neither fields nor a schema are given. A key alone is ignored.
neither : (placed : Located) (beside : List ResourceTable)
    → described_new placed beside (Ok None) (Err NotTexts) None ≡ Err ((codes "fields", codes "Missing value") ∷ [])
neither placed beside = refl

-- Each faulty key has its error.
all_told : by_fields (Err NotTexts) (Some json.Null) (Err (codes "no fields"))
    ≡ Err ((codes "fields", codes "no fields") ∷ (codes "primary_key", codes "Must be a list of texts")
    ∷ (codes "schema", codes "Give fields or schema, not both") ∷ [])
all_told = refl

-- that `fields` isn't a list is reported before anything else of it
no_list : (schema : SchemaValue) → fields_error schema (Err NotList) (Ok (Some [])) ≡ Some (codes "Must be a list")
no_list schema = refl

-- a key that differs is reported under `fields`, also if these are absent
other_key : same_table_errors unkeyed (Ok None) (Ok (Some (codes "k" ∷ []))) None
    ≡ (codes "fields", codes "Table exists with other fields") ∷ []
other_key = refl

-- `[]` fits a table without a key
no_key : same_table_errors unkeyed (Ok None) (Ok (Some [])) None ≡ []
no_key = refl

-- `float` fits a column of numbers
float_fits : is_field number_field (json.Map ((codes "id", json.Text (codes "v"))
    ∷ (codes "type", json.Text (codes "float")) ∷ [])) ≡ true
float_fits = search (rules, the_lemmas)

-- and the name of a descriptor's type isn't a column's type
number_differs : is_field number_field (json.Map ((codes "id", json.Text (codes "v"))
    ∷ (codes "type", json.Text (codes "number")) ∷ [])) ≡ false
number_differs = search (rules, the_lemmas)

-- If the body describes a table, only faulty records are reported. Otherwise they are reported with the other errors.
beside_the_rest : (beside : List ResourceTable) (make : List Json → ResourceTable → Answer TableChange)
    → create_answer_for quota.UsedUp beside make (Err ((codes "fields", codes "no fields") ∷ []))
    (Err (codes "Must be a list"))
    ≡ Refused (Validation ((codes "body", codes "Quota of accepted bytes is used up")
    ∷ (codes "fields", codes "no fields") ∷ (codes "records", codes "Must be a list") ∷ []))
beside_the_rest beside make = refl

-- ---- tables

-- a table without rows of the resource with this number, whose next `_id` is this
abbrev empty : List ℕ → ℕ → ℕ → ResourceTable
empty dataset number next_id = record {
  address = record { dataset = dataset; number = number };
  targets = [];
  table = record {
    schema = record { fields = []; key = []; foreign = []; missing = [] };
    rows = [];
    next_id = next_id;
    room = 0;
  };
}

abbrev two : List ResourceTable
two = empty (codes "a") 1 1 ∷ empty (codes "b") 1 1 ∷ []

beside_b : tables_in (codes "b") two ≡ empty (codes "b") 1 1 ∷ []
beside_b = refl

none_at : table_at 2 (tables_in (codes "b") two) ≡ None
none_at = refl

-- a new table is inserted in order
between : changed_tables (change.Create (empty (codes "a") 2 1)) two
    ≡ empty (codes "a") 1 1 ∷ empty (codes "a") 2 1 ∷ empty (codes "b") 1 1 ∷ []
between = refl

-- and only the table at the address is deleted
gone : changed_tables (change.Remove (record { dataset = codes "b"; number = 1 })) two ≡ empty (codes "a") 1 1 ∷ []
gone = refl

-- ---- foreign keys

abbrev resource : List ℕ → ℕ → Resource
resource name number = record {
  number = number;
  name = name;
  url = [];
  format = [];
  description = [];
  mimetype = [];
}

-- a foreign key of the first field
abbrev to : List ℕ → List (List ℕ) → Foreign
to resource target = record { fields = 0 ∷ []; resource = resource; target = target }

-- the first of the resources with that name that has a table
second_lamp : table_named (resource (codes "lamp") 1 ∷ resource (codes "lamp") 3 ∷ resource (codes "lamp") 2 ∷ [])
    (empty (codes "a") 2 1 ∷ empty (codes "a") 3 1 ∷ []) (codes "lamp") ≡ Some (empty (codes "a") 3 1)
second_lamp = refl

no_table : fitting unkeyed 2 (to (codes "street") []) None ≡ Err (link_text 2 ++ codes ": no such table")
no_table = refl

not_its_key : fitting unkeyed 1 (to (codes "street") (codes "id" ∷ [])) (Some (empty (codes "a") 2 1))
    ≡ Err (link_text 1 ++ codes ": not that table's key")
not_its_key = refl
