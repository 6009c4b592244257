-- The resources that the foreign keys of a new table reference (Table Schema v1, "Foreign keys"). A name stands for
-- the first of the dataset's resources, by position, that has the name and a table. Afterwards the key keeps that
-- resource's number.
use Rattle.std.specs.Prelude.{ℕ, ◌+◌, Bool, true, false, ◌&&◌, if◌then◌else◌, List, [], ◌∷◌, ◌++◌, codes, decimal, find}
use Rattle.std.specs.Prelude.{slice_get, Option, Some, None, option_and_then, is_some, Ok, Err}
use Rattle.std.specs.Str.{bytes_eq}
use Rattle.packages.specs.Named.{Located}
use Rattle.packages.specs.declared.package.Resource.{Resource}
use Rattle.table_schema.specs.Field.{FieldValue, SchemaValue}
use Rattle.table_schema.specs.Form.{kind_of}
use Rattle.table_schema.specs.Keys.{same_kind}
use Rattle.table_schema.specs.declared.foreign.Foreign.{Foreign}
use Rattle.datastore_table.specs.References.{is_self}
use Rattle.datastore_table.specs.Results.{each_ok}
use Rattle.datastore_answers.specs.Tables.{table_at}
use Rattle.datastore_answers.specs.Errors.{OrError}
use Rattle.datastore_answers.specs.declared.resource_table.ResourceTable.{ResourceTable}

-- ---- the table with a name

-- the resource has the name and a table
abbrev pub is_named_table : List ResourceTable → List ℕ → Resource → Bool
is_named_table beside name resource = bytes_eq resource.name name && is_some (table_at resource.number beside)

-- the table of the first of the resources that has the name and a table
abbrev pub table_named : List Resource → List ResourceTable → List ℕ → Option ResourceTable
table_named resources beside name =
    option_and_then (λ (r : Resource). table_at r.number beside) (find (is_named_table beside name) resources)

-- ---- the fit of a key

-- the field can reference that of the other table, which has this name and the same kind
abbrev pub refers : Option FieldValue → Option FieldValue → List ℕ → Bool
refers (Some field) (Some target) name =
    bytes_eq target.name name && same_kind (kind_of field.form) (kind_of target.form)
refers field target name = false

-- The names are those of the other table's whole key in order, and the fields with these indices have the same kinds.
abbrev pub refers_to_key : List FieldValue → List FieldValue → List ℕ → List ℕ → List (List ℕ) → Bool
refers_to_key fields others [] [] [] = true
refers_to_key fields others (index ∷ indices) (k ∷ key) (name ∷ target) =
    refers (slice_get fields index) (slice_get others k) name && refers_to_key fields others indices key target
refers_to_key fields others indices key target = false

-- ---- the foreign keys of a schema

abbrev pub link_text : ℕ → List ℕ
link_text number = codes "foreign key " ++ decimal number

-- the number of the referenced table's resource, if the foreign key with this number fits the table
abbrev pub fitting : SchemaValue → ℕ → Foreign → Option ResourceTable → OrError ℕ
fitting schema number foreign None = Err (link_text number ++ codes ": no such table")
fitting schema number foreign (Some target) =
    if refers_to_key schema.fields target.table.schema.fields foreign.fields target.table.schema.key foreign.target
    then Ok target.address.number else Err (link_text number ++ codes ": not that table's key")

-- The resource that the foreign key with this number, counted from 1, references, or the key's error.
abbrev pub resolved_target : Located → List ResourceTable → SchemaValue → ℕ → Foreign → OrError ℕ
resolved_target placed beside schema number foreign =
    if is_self foreign then Ok placed.resource.number
    else fitting schema number foreign (table_named placed.dataset.resources beside foreign.resource)

-- the resources that all foreign keys reference, in the schema's order, or the error of the first key without one
abbrev pub resolved_targets : Located → List ResourceTable → SchemaValue → OrError (List ℕ)
resolved_targets placed beside schema =
    each_ok (λ index foreign. resolved_target placed beside schema (index + 1) foreign) 0 schema.foreign
