-- How fields are found by their names. No public clause cites this.
use Rattle.std.specs.Prelude.{◌≡◌, ℕ, List, Option}
use Rattle.table_schema.specs.Field.{FieldValue}
use Rattle.datastore_query.specs.Column.{field_index}

-- The look-up finds the index of the first field with a name.
abbrev pub FindsFields : List FieldValue → (List ℕ → Option ℕ) → Type 0
FindsFields fields found = (name : List ℕ) → found name ≡ field_index fields name
