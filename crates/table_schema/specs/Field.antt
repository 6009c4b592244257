-- The values of fields and of schemas, as contracts see them.
use Rattle.std.specs.Prelude.{ℕ, Bool, List}
use Rattle.table_schema.specs.declared.constraint.Constraints.{Constraints}
use Rattle.table_schema.specs.declared.form.Form.{Form}
use Rattle.table_schema.specs.declared.foreign.Foreign.{Foreign}

-- A field: its name, its type with options, its constraints, the texts that are missing values, and whether it is
-- in the primary key.
pub record FieldValue : Type 0 where
  pub name : List ℕ
  pub form : Form
  pub constraints : Constraints
  pub missing : List (List ℕ)
  pub in_key : Bool

-- A schema: its fields, the indices of the primary key's fields, its foreign keys, and the texts that are missing
-- values. Indices are counted from 0.
pub record SchemaValue : Type 0 where
  pub fields : List FieldValue
  pub key : List ℕ
  pub foreign : List Foreign
  pub missing : List (List ℕ)

abbrev pub schema_from : List FieldValue → List ℕ → List Foreign → List (List ℕ) → SchemaValue
schema_from fields key foreign missing = record { fields = fields; key = key; foreign = foreign; missing = missing }
