-- Items that are found by their indices.
use Rattle.std.proofs.Common.{◌≡◌, ◌∙◌, ℕ, ◌+◌, ◌<◌, ◌≤◌, Bool, true, false, cond, List, length, drop, get_or, Option}
use Rattle.std.proofs.Common.{Some, None, refl, sym, ap, arith}
use Rattle.std.specs.Prelude.{nat_lt, slice_get}
use Rattle.std.specs.List.{find, position, position_from, position_or_len}
use Rattle.std.specs.Str.{bytes_eq}
use Rattle.std.proofs.lemmas.Bool.Decides.{nat_tests}
use Rattle.std.proofs.lemmas.Iterator.Adapters.{position_from-zero}
use Rattle.std.proofs.lemmas.List.{at_drop_more}
use Rattle.std.proofs.lemmas.List.Folds.{find_at}
use Rattle.std.proofs.lemmas.Option.{slice_get_past}
use Rattle.table_schema.specs.Field.{FieldValue}
use Rattle.datastore_query.specs.Column.{field_index}

-- The first item that passes the test is at its index.
pub found_at : {X : Type 0} (test : X → Bool) (xs : List X) (i : ℕ) → position test xs ≡ Some i
    → slice_get xs i ≡ find test xs
found_at {X} test xs i at = by (nat_lt (position_or_len test xs) (length xs)) refl at
  where
    by : (b : Bool) → nat_lt (position_or_len test xs) (length xs) ≡ b
        → cond b (Some (position_or_len test xs)) None ≡ Some i → slice_get xs i ≡ find test xs
    by true e h =
        let same : position_or_len test xs ≡ i = cc in
        ap (slice_get xs) (sym same) ∙ sym (find_at test xs)
    by false e h = absurd (cc)

pub found_none : {X : Type 0} (test : X → Bool) (xs : List X) → position test xs ≡ None → None ≡ find test xs
found_none {X} test xs at = by (nat_lt (position_or_len test xs) (length xs)) refl at
  where
    by : (b : Bool) → nat_lt (position_or_len test xs) (length xs) ≡ b
        → cond b (Some (position_or_len test xs)) None ≡ None → None ≡ find test xs
    by true e h = absurd (cc)
    by false e h =
        let past : length xs ≤ position_or_len test xs = grind (arith, nat_tests) in
        sym (find_at test xs ∙ slice_get_past xs (position_or_len test xs) past)

-- ---- the map from names to indices, filled from the last field to the first

abbrev has_name : List ℕ → FieldValue → Bool
has_name name field = bytes_eq field.name name

-- One more field is in the map.
pub index_step : (fields : List FieldValue) (from i : ℕ) (field : FieldValue) (key name : List ℕ) (found after : Option ℕ)
    → i < length fields → from ≡ i + 1 → field ≡ get_or fields i field → key ≡ field.name
    → found ≡ position_from (λ (f : FieldValue). bytes_eq f.name name) from (drop from fields)
    → after ≡ cond (bytes_eq key name) (Some i) found
    → after ≡ position_from (λ (f : FieldValue). bytes_eq f.name name) i (drop i fields)
index_step fields from i field key name found after lt at is named before then =
    then
    ∙ ap (λ o. cond (bytes_eq key name) (Some i) o) before
    ∙ ap (λ n. cond (bytes_eq key name) (Some i) (position_from (has_name name) n (drop n fields))) at
    ∙ ap (λ bs. cond (bytes_eq bs name) (Some i) (position_from (has_name name) (i + 1) (drop (i + 1) fields))) named
    ∙ ap (λ (f : FieldValue). cond (bytes_eq f.name name) (Some i)
    (position_from (has_name name) (i + 1) (drop (i + 1) fields))) is
    ∙ sym (at_drop_more (position_from (has_name name) i) fields i field lt)

-- All fields are in the map.
pub index_all : (fields : List FieldValue) (i : ℕ) (name : List ℕ) (found : Option ℕ) → i ≡ 0
    → found ≡ position_from (λ (f : FieldValue). bytes_eq f.name name) i (drop i fields)
    → found ≡ field_index fields name
index_all fields i name found at before =
    before ∙ ap (λ n. position_from (has_name name) n (drop n fields)) at
    ∙ sym (position_from-zero (has_name name) fields)
