-- The lengths of lists that fit a table.
use Rattle.std.proofs.Common.{◌≡◌, ℕ, suc, true, refl, ap, List, [], ◌∷◌, length, slice_get}
use Rattle.std.proofs.lemmas.Bool.{and_parts}
use Rattle.table_schema.specs.Field.{FieldValue}
use Rattle.datastore_answers.specs.Described.{are_fields, are_names, is_field}
use Rattle.datastore_answers.specs.Resolution.{refers, refers_to_key}
use Rattle.portal_base.specs.declared.json_value.Json.{Json}
use Rattle.table_schema.specs.Written.{name_at}
use Rattle.std.specs.Str.{bytes_eq}

-- A reference to the whole key has as many fields as the key.
pub refers_to_key-lengths : (fields others : List FieldValue) (indices key : List ℕ) (target : List (List ℕ))
    → refers_to_key fields others indices key target ≡ true
    → (length indices ≡ length key) × (length key ≡ length target)
refers_to_key-lengths fields others [] [] [] h = (refl, refl)
refers_to_key-lengths fields others [] [] (t ∷ target) h = cc
refers_to_key-lengths fields others [] (k ∷ key) target h = cc
refers_to_key-lengths fields others (p ∷ indices) [] target h = cc
refers_to_key-lengths fields others (p ∷ indices) (k ∷ key) [] h = cc
refers_to_key-lengths fields others (p ∷ indices) (k ∷ key) (t ∷ target) h =
    let rest =
    refers_to_key-lengths fields others indices key target
    (and_parts (refers (slice_get fields p) (slice_get others k) t) (refers_to_key fields others indices key target)
    h).1 in
    (ap suc rest.0, ap suc rest.1)

pub are_fields-length : (fields : List FieldValue) (items : List Json) → are_fields fields items ≡ true
    → length fields ≡ length items
are_fields-length [] [] h = refl
are_fields-length [] (i ∷ items) h = cc
are_fields-length (f ∷ fields) [] h = cc
are_fields-length (f ∷ fields) (i ∷ items) h =
    ap suc (are_fields-length fields items (and_parts (is_field f i) (are_fields fields items) h).1)

pub are_names-length : (fields : List FieldValue) (indices : List ℕ) (names : List (List ℕ))
    → are_names fields indices names ≡ true → length indices ≡ length names
are_names-length fields [] [] h = refl
are_names-length fields [] (n ∷ names) h = cc
are_names-length fields (p ∷ indices) [] h = cc
are_names-length fields (p ∷ indices) (n ∷ names) h =
    ap suc (are_names-length fields indices names
    (and_parts (bytes_eq (name_at fields p) n) (are_names fields indices names) h).1)
