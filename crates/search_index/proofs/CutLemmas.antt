-- Where a query's text is cut: before or after the first character of a kind, and after a field's name.
use Rattle.std.proofs.Common.{◌≡◌, ◌∙◌, ℕ, ◌+◌, ◌-◌, ◌<◌, ◌≤◌, Bool, true, false, ◌||◌, not, cond, ltb}
use Rattle.std.proofs.Common.{List, [], ◌∷◌, ◌++◌, length, take, drop, refl, sym, ap, ap₂, arith}
use Rattle.std.proofs.Common.{nat_eq, position, take_at, drop_at, eqb-true, ltb-false}
use Rattle.std.specs.Prelude.{Some, None, find, unwrap_or}
use Rattle.std.specs.List.{list_any, position_or_len, starts_with}
use Rattle.std.proofs.lemmas.Bool.{and_parts, or_parts}
use Rattle.std.proofs.lemmas.List.{length-append, take_rest}
use Rattle.std.proofs.lemmas.List.Sums.{prefix_len-le-length}
use Rattle.search_index.specs.Cut.{begins_with, from, named_field, named_fields, until}
use Rattle.search_index.specs.Terms.{field_prefix}
use Rattle.search_index.specs.declared.field.Field.{Field}

-- ---- the first character of a kind

pub until-append-from : (is_one : ℕ → Bool) (text : List ℕ) → until is_one text ++ from is_one text ≡ text
until-append-from is_one [] = refl
until-append-from is_one (c ∷ cs) = by (is_one c) (until-append-from is_one cs)
  where
    by : (b : Bool) → until is_one cs ++ from is_one cs ≡ cs
        → cond b [] (c ∷ until is_one cs) ++ cond b (c ∷ cs) (from is_one cs) ≡ c ∷ cs
    by true more = refl
    by false more = ap (λ (xs : List ℕ). c ∷ xs) more

pub until_lacks : (is_one : ℕ → Bool) (text : List ℕ) → list_any is_one (until is_one text) ≡ false
until_lacks is_one [] = refl
until_lacks is_one (c ∷ cs) = by (is_one c) refl (until_lacks is_one cs)
  where
    by : (b : Bool) → is_one c ≡ b → list_any is_one (until is_one cs) ≡ false
        → list_any is_one (cond b [] (c ∷ until is_one cs)) ≡ false
    by true e more = refl
    by false e more = ap₂ (λ x y. x || y) e more

pub from_begins : (is_one : ℕ → Bool) (text : List ℕ) → 0 < length (from is_one text)
    → begins_with is_one (from is_one text) ≡ true
from_begins is_one [] some = absurd (omega arith)
from_begins is_one (c ∷ cs) some = by (is_one c) refl (from_begins is_one cs) some
  where
    by : (b : Bool) → is_one c ≡ b
        → (0 < length (from is_one cs) → begins_with is_one (from is_one cs) ≡ true)
        → 0 < length (cond b (c ∷ cs) (from is_one cs)) → begins_with is_one (cond b (c ∷ cs) (from is_one cs)) ≡ true
    by true e more some = e
    by false e more some = more some

pub from_past : (is_one : ℕ → Bool) (xs ys : List ℕ) → list_any is_one xs ≡ false
    → from is_one (xs ++ ys) ≡ from is_one ys
from_past is_one [] ys lacks = refl
from_past is_one (c ∷ cs) ys lacks =
    let parts = or_parts (is_one c) (list_any is_one cs) lacks in
    ap (λ b. cond b (c ∷ cs ++ ys) (from is_one (cs ++ ys))) parts.0 ∙ from_past is_one cs ys parts.1

pub from_here : (is_one : ℕ → Bool) (text : List ℕ) → begins_with is_one text ≡ true → from is_one text ≡ text
from_here is_one [] begins = refl
from_here is_one (c ∷ cs) begins = ap (λ b. cond b (c ∷ cs) (from is_one cs)) begins

pub from_within : (is_one : ℕ → Bool) (text : List ℕ) → length (from is_one text) ≤ length text
from_within is_one text =
    omega (arith, ap length (until-append-from is_one text), length-append (until is_one text) (from is_one text))

-- ---- its position

length-until : (is_one : ℕ → Bool) (text : List ℕ) → position_or_len is_one text ≡ length (until is_one text)
length-until is_one [] = refl
length-until is_one (c ∷ cs) = by (is_one c) (length-until is_one cs)
  where
    by : (b : Bool) → position_or_len is_one cs ≡ length (until is_one cs)
        → cond (not b) (1 + position_or_len is_one cs) 0 ≡ length (cond b [] (c ∷ until is_one cs))
    by true more = refl
    by false more = omega (arith, more)

pub until_by_position : (is_one : ℕ → Bool) (text : List ℕ)
    → take (position_or_len is_one text) text ≡ until is_one text
until_by_position is_one text =
    ap (λ (xs : List ℕ). take (position_or_len is_one text) xs) (sym (until-append-from is_one text))
    ∙ take_at (until is_one text) (from is_one text) _ (sym (length-until is_one text))

pub from_by_position : (is_one : ℕ → Bool) (text : List ℕ)
    → take (length text - position_or_len is_one text) (drop (position_or_len is_one text) text) ≡ from is_one text
from_by_position is_one text =
    let at : ℕ = position_or_len is_one text in
    take_rest text at
    ∙ ap (λ (xs : List ℕ). drop at xs) (sym (until-append-from is_one text))
    ∙ drop_at (until is_one text) (from is_one text) _ (sym (length-until is_one text))

pub position_within : (is_one : ℕ → Bool) (text : List ℕ) → position_or_len is_one text ≤ length text
position_within is_one text = prefix_len-le-length (λ c. not (is_one c)) text

pub position_or_len_is : (is_one : ℕ → Bool) (text : List ℕ)
    → unwrap_or (position is_one text) (length text) ≡ position_or_len is_one text
position_or_len_is is_one text = by (ltb (position_or_len is_one text) (length text)) refl
  where
    by : (b : Bool) → ltb (position_or_len is_one text) (length text) ≡ b
        → unwrap_or (cond b (Some (position_or_len is_one text)) None) (length text) ≡ position_or_len is_one text
    by true e = refl
    by false e =
        omega (
          arith,
          position_within is_one text,
          ltb-false (position_or_len is_one text) (length text) e,
        )

-- ---- what a text begins with

-- A text that begins with another is the other and what follows it.
pub split_after : (text front : List ℕ) → starts_with nat_eq text front ≡ true
    → front ++ drop (length front) text ≡ text
split_after text [] begins = refl
split_after [] (x ∷ front) begins = absurd (cc)
split_after (c ∷ cs) (x ∷ front) begins =
    let parts = and_parts (nat_eq x c) (starts_with nat_eq cs front) begins in
    ap₂ (λ y (ys : List ℕ). y ∷ ys) (eqb-true x c parts.0) (split_after cs front parts.1)

-- What is found passes.
pub found_passes : {X : Type 0} (test : X → Bool) (xs : List X) (x : X) → find test xs ≡ Some x → test x ≡ true
found_passes test [] x found = absurd (cc)
found_passes {X} test (y ∷ xs) x found = by (test y) refl (found_passes test xs x) found
  where
    by : (b : Bool) → test y ≡ b → (find test xs ≡ Some x → test x ≡ true) → cond b (Some y) (find test xs) ≡ Some x
        → test x ≡ true
    by true e more found = let same : y ≡ x = cc in ap test (sym same) ∙ e
    by false e more found = more found

pub find-same : {X : Type 0} (test other : X → Bool) (xs : List X) → ((x : X) → test x ≡ other x)
    → find test xs ≡ find other xs
find-same test other [] same = refl
find-same test other (x ∷ xs) same =
    ap₂ (λ b found. cond b (Some x) found) (same x) (find-same test other xs same)

-- A text that begins with a field's name and colon is these and the value.
pub field-append-value : (text : List ℕ) (field : Field) → named_field text ≡ Some field
    → field_prefix field ++ drop (length (field_prefix field)) text ≡ text
field-append-value text field named =
    split_after text (field_prefix field)
    (found_passes (λ other. starts_with nat_eq text (field_prefix other)) named_fields field named)

pub field_within : (text : List ℕ) (field : Field) → named_field text ≡ Some field
    → length (field_prefix field) ≤ length text
field_within text field named =
    let front : List ℕ = field_prefix field in
    omega (
      arith,
      ap length (field-append-value text field named),
      length-append front (drop (length front) text),
    )
