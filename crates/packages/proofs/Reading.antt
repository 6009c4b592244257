-- What is read of a body without errors is what it describes.
use Rattle.std.proofs.Common.{◌≡◌, ◌⊎◌, inl, inr, ℕ, ◌+◌, ◌<◌, Bool, true, false, cond, List, [], ◌∷◌, ◌++◌, length, codes, refl, ap, sym, ◌∙◌}
use Rattle.std.proofs.Common.{Option, Some, None, Result, Ok, Err, is_some, subst, arith, take, drop, drop-cons, length-take}
use Rattle.std.proofs.Common.{OnOk, get_or, suc}
use Rattle.std.specs.Prelude.{nat_le, option_map, unwrap_or}
use Rattle.portal_base.specs.declared.json_value.Json.{Json}
use Rattle.portal_base.specs.declared.kinds.KindFault.{KindFault}
use Rattle.portal_base.specs.declared.kinds.KindFault.TheVariants.{Longer}
use Rattle.portal_base.specs.KeyErrors.{found_value, kind_message}
use Rattle.portal_base.specs.Kinds.{bounded_by, short_text_at, text_at}
use Rattle.packages.specs.Body.{body_checks, body_errors, built_dataset}
use Rattle.packages.specs.Errors.{first_error, or_error}
use Rattle.packages.specs.Reading.{HasError, base_read, blank_resource, short_text_read, title_read, value_or}
use Rattle.packages.specs.Reading.{with_reading, with_texts_read}
use Rattle.packages.specs.Resources.{item_error, items_error, resource_checks, resource_errors, resource_for, resources_key_error}
use Rattle.packages.specs.Resources.{with_position}
use Rattle.packages.specs.Texts.{or_name}
use Rattle.packages.specs.declared.errors.ReadFault.{ReadFault}
use Rattle.packages.specs.declared.errors.ReadFault.TheVariants.{Rule, OutOfMemory}
use Rattle.packages.specs.declared.package.Package.{Package}
use Rattle.packages.proofs.NoErrors.{with_rule_errors-none}

-- ---- texts

-- The text is the one of the key, if that has no error: of the text itself, or of what is made of it.
read-mapped : (make : List ℕ → List ℕ) (longest : ℕ) (kept : List ℕ) (read : Result (Option (List ℕ)) KindFault)
    → unwrap_or (option_map make (found_value (bounded_by longest read))) kept
    ≡ value_or (kind_message (bounded_by longest read)) (unwrap_or (option_map make (found_value read)) kept) kept
read-mapped make longest kept (Ok None) = refl
read-mapped make longest kept (Ok (Some text)) = by (nat_le (length text) longest)
  where
    by : (b : Bool)
        → unwrap_or (option_map make (found_value (cond b (Ok (Some text)) (Err (Longer longest))))) kept
        ≡ value_or (kind_message (cond b (Ok (Some text)) (Err (Longer longest)))) (make text) kept
    by true = refl
    by false = refl
read-mapped make longest kept (Err fault) = refl

read-unmapped : (longest : ℕ) (kept : List ℕ) (read : Result (Option (List ℕ)) KindFault)
    → unwrap_or (found_value (bounded_by longest read)) kept
    ≡ value_or (kind_message (bounded_by longest read)) (unwrap_or (found_value read) kept) kept
read-unmapped longest kept (Ok None) = refl
read-unmapped longest kept (Ok (Some text)) = by (nat_le (length text) longest)
  where
    by : (b : Bool)
        → unwrap_or (found_value (cond b (Ok (Some text)) (Err (Longer longest)))) kept
        ≡ value_or (kind_message (cond b (Ok (Some text)) (Err (Longer longest)))) text kept
    by true = refl
    by false = refl
read-unmapped longest kept (Err fault) = refl

pub short_text_is_read : (longest : ℕ) (kept key : List ℕ) (body : Json)
    → unwrap_or (found_value (short_text_at longest key body)) kept ≡ short_text_read longest kept key body
short_text_is_read longest kept key body = read-unmapped longest kept (text_at key body)

pub title_is_read : (kept name : List ℕ) (body : Json)
    → unwrap_or (option_map (or_name name) (found_value (short_text_at 2000 (codes "title") body))) kept
    ≡ title_read kept name body
title_is_read kept name body = read-mapped (or_name name) 2000 kept (text_at (codes "title") body)

-- A fact that holds in any case.
pub OnOk-always : {T E P : Type 0} (result : Result T E) → P → OnOk result P
OnOk-always (Ok done) fact = fact
OnOk-always (Err e) fact = tt

-- ---- lists

or_error-none : (error : Option (List ℕ)) → or_error error None ≡ error
or_error-none None = refl
or_error-none (Some message) = refl

or_error-assoc : (one two three : Option (List ℕ)) → or_error (or_error one two) three ≡ or_error one (or_error two three)
or_error-assoc None two three = refl
or_error-assoc (Some message) two three = refl

-- the first error of a list with one more item
pub first_error-append : {A : Type 0} (error_of : A → Option (List ℕ)) (xs : List A) (x : A)
    → first_error error_of (xs ++ x ∷ []) ≡ or_error (first_error error_of xs) (error_of x)
first_error-append error_of [] x = or_error-none (error_of x)
first_error-append error_of (y ∷ ys) x =
    ap (or_error (error_of y)) (first_error-append error_of ys x)
    ∙ sym (or_error-assoc (error_of y) (first_error error_of ys) (error_of x))

-- ---- errors

-- A value whose key has an error is kept.
pub value-kept : {A : Type 0} (error : Option (List ℕ)) (value kept : A) → is_some error ≡ true → kept ≡ value_or error value kept
value-kept None value kept has = absurd (cc)
value-kept (Some message) value kept has = refl

pub kept-if-faulty : {A T E : Type 0} (result : Result T E) (error : Option (List ℕ)) (value kept : A)
    → OnOk result (is_some error ≡ true) → OnOk result (kept ≡ value_or error value kept)
kept-if-faulty (Ok done) error value kept has = value-kept error value kept has
kept-if-faulty (Err e) error value kept has = tt

HasError-first : (error rest : Option (List ℕ)) (fault : ReadFault) → HasError error fault → HasError (or_error error rest) fault
HasError-first error rest (Rule message) is = ap (λ e. or_error e rest) is
HasError-first error rest OutOfMemory is = tt

-- The error of the first faulty item is the error of the list.
pub item-fault : (old : Option Package) (items : List Json) (i : ℕ) (item : Json) (fault : ReadFault) → i < length items
    → item ≡ get_or items i item → items_error old [] items ≡ items_error old (take i items) (drop i items)
    → HasError (option_map (with_position (i + 1)) (item_error old (take i items) item)) fault
    → HasError (items_error old [] items) fault
item-fault old items i item fault within is first error =
    let before = take i items in
    let rest = drop (suc i) items in
    let here = λ (n : ℕ). option_map (with_position (n + 1)) (item_error old before item) in
    let number : length before ≡ i = omega (arith, length-take i items, within) in
    let dropped : drop i items ≡ item ∷ rest = drop-cons items i item within ∙ ap (λ x. x ∷ rest) (sym is) in
    subst (λ e. HasError e fault) (sym (first ∙ ap (items_error old before) dropped))
    (HasError-first (here (length before)) (items_error old (before ++ item ∷ []) rest) fault
    (subst (λ n. HasError (here n) fault) (sym number) error))

-- ---- a single resource

pub resource-read : (number : ℕ) (body : Json) → resource_errors body ≡ []
    → with_texts_read body (blank_resource number) ≡ resource_for number body
resource-read number body no_errors =
    let none = (with_rule_errors-none (resource_checks body) [] no_errors).1 in
    rw (none.0, none.1.0, none.1.1.0, none.1.1.1.0, none.1.1.1.1.0) refl

-- ---- a dataset

-- Without errors the dataset is the one that the body describes.
pub dataset-read : (body : Json) (old : Option Package) (whole : Bool) → body_errors body old ≡ []
    → with_reading body old (base_read old whole) ≡ built_dataset body old whole
dataset-read body None whole no_errors =
    let none = (with_rule_errors-none (body_checks body None) [] no_errors).1 in
    rw (
      none.0,
      none.1.0,
      none.1.1.0,
      none.1.1.1.0,
      none.1.1.1.1.0,
      none.1.1.1.1.1.0,
      none.1.1.1.1.1.1.1.0,
      none.1.1.1.1.1.1.1.1.1.0,
      none.1.1.1.1.1.1.1.1.1.1.0,
      none.1.1.1.1.1.1.1.1.1.1.1.0,
      none.1.1.1.1.1.1.1.1.1.1.1.1.0,
    ) refl
dataset-read body (Some old) true no_errors =
    let none = (with_rule_errors-none (body_checks body (Some old)) [] no_errors).1 in
    rw (
      none.0,
      none.1.0,
      none.1.1.0,
      none.1.1.1.1.0,
      none.1.1.1.1.1.1.1.0,
      none.1.1.1.1.1.1.1.1.1.0,
      none.1.1.1.1.1.1.1.1.1.1.0,
      none.1.1.1.1.1.1.1.1.1.1.1.0,
      none.1.1.1.1.1.1.1.1.1.1.1.1.0,
    ) refl
dataset-read body (Some old) false no_errors =
    let none = (with_rule_errors-none (body_checks body (Some old)) [] no_errors).1 in
    rw (
      none.0,
      none.1.0,
      none.1.1.0,
      none.1.1.1.1.0,
      none.1.1.1.1.1.1.1.0,
      none.1.1.1.1.1.1.1.1.1.0,
      none.1.1.1.1.1.1.1.1.1.1.0,
      none.1.1.1.1.1.1.1.1.1.1.1.0,
      none.1.1.1.1.1.1.1.1.1.1.1.1.0,
    ) refl

-- The id is that of the dataset that the body describes, errors or not.
pub id-read : (body : Json) (old : Option Package) (whole : Bool)
    → (with_reading body old (base_read old whole)).id ≡ (built_dataset body old whole).id
id-read body None whole = refl
id-read body (Some old) true = refl
id-read body (Some old) false = refl

value-read : {A : Type 0} (error : Option (List ℕ)) (value kept : A)
    → (is_some error ≡ true) ⊎ (value_or error value kept ≡ value)
value-read None value kept = inr refl
value-read (Some message) value kept = inl refl

-- The resources are those of the dataset that the body describes, if their key has no error.
pub resources-read : (body : Json) (old : Option Package) (whole : Bool)
    → (is_some (resources_key_error old body) ≡ true)
    ⊎ ((with_reading body old (base_read old whole)).resources ≡ (built_dataset body old whole).resources)
resources-read body None whole = value-read (resources_key_error None body) _ _
resources-read body (Some old) true = value-read (resources_key_error (Some old) body) _ _
resources-read body (Some old) false = value-read (resources_key_error (Some old) body) _ _
