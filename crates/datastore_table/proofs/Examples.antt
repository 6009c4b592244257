-- The definitions on worked examples: a table of a key `k` and a text `v`, and a batch of two records.
use Rattle.std.proofs.Common.{◌≡◌, ℕ, Bool, true, false, List, [], ◌∷◌, Ok, Err, length, refl, rules}
use Rattle.std.specs.Prelude.{codes}
use Rattle.portal_base.specs.declared.json_value.Json as json
use Rattle.portal_base.specs.declared.json_value.Json.{Json, the_lemmas}
use Rattle.table_schema.specs.declared.cell.Cell.TheVariants as cell
use Rattle.table_schema.specs.declared.form.Form.TheVariants as form
use Rattle.table_schema.specs.declared.foreign.Foreign.{Foreign}
use Rattle.table_schema.specs.Constraint.{constraint_fault}
use Rattle.table_schema.specs.Descriptor.{no_constraints}
use Rattle.table_schema.specs.Field.{FieldValue, SchemaValue}
use Rattle.datastore_table.specs.declared.fault.TableFault.TheVariants as fault
use Rattle.datastore_table.specs.declared.method.Method.TheVariants.{Insert, Update, Upsert}
use Rattle.datastore_table.specs.declared.row.Row.{Row}
use Rattle.datastore_table.specs.Batch.{delete_checked, cut_rows}
use Rattle.datastore_table.specs.Meets.{meets_schema}
use Rattle.datastore_table.specs.Put.{admitted, grown_length, put_records}
use Rattle.datastore_table.specs.Table.{TableValue}

abbrev text_field : List ℕ → Bool → FieldValue
text_field name in_key =
    record { name = name; form = form.Text; constraints = no_constraints; missing = [] ∷ []; in_key = in_key }

-- `v` refers to a row's key.
abbrev to_key : Foreign
to_key = record { fields = 1 ∷ []; resource = []; target = codes "k" ∷ [] }

abbrev schema_of : List Foreign → SchemaValue
schema_of foreign = record {
  fields = text_field (codes "k") true ∷ text_field (codes "v") false ∷ [];
  key = 0 ∷ [];
  foreign = foreign;
  missing = [] ∷ [];
}

abbrev pair : List ℕ → List ℕ → Json
pair k v = json.Map ((codes "k", json.Text k) ∷ (codes "v", json.Text v) ∷ [])

abbrev only : List ℕ → Json
only k = json.Map ((codes "k", json.Text k) ∷ [])

abbrev row : ℕ → List ℕ → List ℕ → Row
row id k v = record { id = id; cells = cell.Text k ∷ cell.Text v ∷ [] }

abbrev worked : List Foreign → TableValue
worked foreign = record {
  schema = schema_of foreign;
  rows = row 1 (codes "a") (codes "x") ∷ row 4 (codes "b") (codes "a") ∷ [];
  next_id = 5;
  room = 0;
}

-- A row keeps its `_id`, and later records find a new row.
put_twice : put_records Upsert (pair (codes "c") (codes "y") ∷ pair (codes "c") (codes "z") ∷ []) (worked [])
    ≡ Ok (record {
      rows = row 1 (codes "a") (codes "x") ∷ row 4 (codes "b") (codes "a") ∷ row 5 (codes "c") (codes "z") ∷ [];
      next_id = 6;
      written = 5 ∷ 5 ∷ [];
    })
unfolding constraint_fault
put_twice = search (rules, the_lemmas)

-- A field that the record lacks keeps its cell.
kept : put_records Update (only (codes "a") ∷ []) (worked [])
    ≡ Ok (record { rows = (worked []).rows; next_id = 5; written = 1 ∷ [] })
unfolding constraint_fault
kept = search (rules, the_lemmas)

taken : put_records Insert (pair (codes "c") [] ∷ pair (codes "a") [] ∷ []) (worked []) ≡ Err (fault.KeyTaken 2)
unfolding constraint_fault
taken = search (rules, the_lemmas)

-- Two records with the same new key and one with a key that exists add one row.
grown : grown_length Upsert (schema_of []) (worked []).rows
    (only (codes "c") ∷ pair (codes "c") [] ∷ only (codes "a") ∷ []) ≡ 3
unfolding constraint_fault
grown = search (rules, the_lemmas)

-- No row has the key `x`.
not_met : meets_schema (schema_of (to_key ∷ [])) (worked []).rows ≡ false
unfolding constraint_fault
not_met = refl

met : meets_schema (schema_of []) (worked []).rows ≡ true
unfolding constraint_fault
met = refl

-- The row with the key `b` refers to the first.
referred : delete_checked (1 ∷ []) (worked (to_key ∷ [])) ≡ Err (fault.Referred 1)
referred = refl

left : cut_rows (1 ∷ 9 ∷ []) (worked []).rows ≡ row 4 (codes "b") (codes "a") ∷ []
left = refl

-- ---- the limit of rows

-- A batch that leaves 1,000,000 rows is admitted. A batch that leaves one more is refused.
fits : (schema : SchemaValue) (rows : List Row) (given : Json) → length rows ≡ 999999
    → admitted Insert (given ∷ []) schema rows ≡ Ok tt
fits schema rows given all = rw all refl

is_one_too_many : (schema : SchemaValue) (rows : List Row) (given : Json) → length rows ≡ 1000000
    → admitted Insert (given ∷ []) schema rows ≡ Err fault.Full
is_one_too_many schema rows given all = rw all refl

-- A batch without records is admitted in a full table.
adds_none : (schema : SchemaValue) (rows : List Row) → length rows ≡ 1000000 → admitted Insert [] schema rows ≡ Ok tt
adds_none schema rows all = rw all refl
