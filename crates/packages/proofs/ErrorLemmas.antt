-- A key that has an error keeps it when further errors are added.
use Rattle.std.proofs.Common.{◌≡◌, ℕ, Bool, true, false, cond, ◌||◌, List, [], ◌∷◌, ◌++◌, Option, Some, None, is_some}
use Rattle.std.proofs.Common.{refl, sym, ap, ◌∙◌, subst}
use Rattle.std.specs.List.{list_any}
use Rattle.std.specs.Ordering.{is_lt}
use Rattle.std.specs.Str.{bytes_eq}
use Rattle.std.specs.declared.cmp.Ordering.{Ordering}
use Rattle.std.proofs.lemmas.Bool.{or_left, or_right}
use Rattle.std.proofs.lemmas.Slice.Eq.{bytes_eq-Decides}
use Rattle.portal_base.specs.KeyErrors.{KeyError, error_if, has_error, key_error_cmp, with_error, with_errors}
use Rattle.portal_base.specs.KeyErrors.{with_rule_errors}
use Rattle.portal_base.specs.Ordered.{inserted}

-- ---- an insertion

any_kept : {X : Type 0} (cmp : X → X → Ordering) (test : X → Bool) (x : X) (xs : List X) → list_any test xs ≡ true
    → list_any test (inserted cmp x xs) ≡ true
any_kept cmp test x [] h = absurd (cc)
any_kept {X} cmp test x (y ∷ ys) h =
    by (is_lt (cmp y x)) (test y) refl h (λ rest. any_kept cmp test x ys rest)
  where
    by : (b t : Bool) → test y ≡ t → (test y || list_any test ys) ≡ true
        → (list_any test ys ≡ true → list_any test (inserted cmp x ys) ≡ true)
        → list_any test (cond b (y ∷ inserted cmp x ys) (x ∷ y ∷ ys)) ≡ true
    by true true is h more = or_left (test y) (list_any test (inserted cmp x ys)) is
    by true false is h more =
        or_right (test y) (list_any test (inserted cmp x ys))
        (more (sym (ap (λ t. t || list_any test ys) is) ∙ h))
    by false t is h more = or_right (test x) (test y || list_any test ys) h

any_new : {X : Type 0} (cmp : X → X → Ordering) (test : X → Bool) (x : X) (xs : List X) → test x ≡ true
    → list_any test (inserted cmp x xs) ≡ true
any_new cmp test x [] h = or_left (test x) false h
any_new {X} cmp test x (y ∷ ys) h = by (is_lt (cmp y x)) (any_new cmp test x ys h)
  where
    by : (b : Bool) → list_any test (inserted cmp x ys) ≡ true
        → list_any test (cond b (y ∷ inserted cmp x ys) (x ∷ y ∷ ys)) ≡ true
    by true more = or_right (test y) (list_any test (inserted cmp x ys)) more
    by false more = or_left (test x) (test y || list_any test ys) h

-- ---- one more error

with_error-kept : (key k message : List ℕ) (errors : List KeyError) → has_error key errors ≡ true
    → has_error key (with_error k message errors) ≡ true
with_error-kept key k message errors h = by (has_error k errors)
  where
    by : (b : Bool) → has_error key (cond b errors (inserted key_error_cmp (k, message) errors)) ≡ true
    by true = h
    by false = any_kept key_error_cmp (λ (e : KeyError). bytes_eq e.0 key) (k, message) errors h

with_error-has : (key message : List ℕ) (errors : List KeyError) → has_error key (with_error key message errors) ≡ true
with_error-has key message errors = by (has_error key errors) refl
  where
    by : (b : Bool) → has_error key errors ≡ b
        → has_error key (cond b errors (inserted key_error_cmp (key, message) errors)) ≡ true
    by true is = is
    by false is =
        any_new key_error_cmp (λ (e : KeyError). bytes_eq e.0 key) (key, message) errors
        ((bytes_eq-Decides key key).1 refl)

pub error_if-kept : (key k : List ℕ) (error : Option (List ℕ)) (errors : List KeyError) → has_error key errors ≡ true
    → has_error key (error_if k error errors) ≡ true
error_if-kept key k None errors h = h
error_if-kept key k (Some message) errors h = with_error-kept key k message errors h

-- A further error of the key isn't added.
pub error_if-masked : (key : List ℕ) (error : Option (List ℕ)) (errors : List KeyError) → has_error key errors ≡ true
    → error_if key error errors ≡ errors
error_if-masked key None errors h = refl
error_if-masked key (Some message) errors h =
    ap (λ b. cond b errors (inserted key_error_cmp (key, message) errors)) h

-- ---- the errors of rules

rules-kept : (key : List ℕ) (rules : List (List ℕ × Option (List ℕ))) (errors : List KeyError)
    → has_error key errors ≡ true → has_error key (with_rule_errors rules errors) ≡ true
rules-kept key [] errors h = h
rules-kept key (rule ∷ rules) errors h =
    rules-kept key rules (error_if rule.0 rule.1 errors) (error_if-kept key rule.0 rule.1 errors h)

-- The key of a broken rule has an error.
pub rules-has : (key : List ℕ) (error : Option (List ℕ)) (before after : List (List ℕ × Option (List ℕ)))
    (errors : List KeyError) → is_some error ≡ true
    → has_error key (with_rule_errors (before ++ (key, error) ∷ after) errors) ≡ true
rules-has key None [] after errors h = absurd (cc)
rules-has key (Some message) [] after errors h =
    rules-kept key after (with_error key message errors) (with_error-has key message errors)
rules-has key error (rule ∷ before) after errors h = rules-has key error before after (error_if rule.0 rule.1 errors) h

-- ---- a list of errors

others-kept : (key : List ℕ) (others errors : List KeyError) → has_error key errors ≡ true
    → has_error key (with_errors others errors) ≡ true
others-kept key [] errors h = h
others-kept key (more ∷ others) errors h =
    others-kept key others (with_error more.0 more.1 errors) (with_error-kept key more.0 more.1 errors h)

pub with_errors-has : (key : List ℕ) (others errors : List KeyError) → has_error key others ≡ true
    → has_error key (with_errors others errors) ≡ true
with_errors-has key [] errors h = absurd (cc)
with_errors-has key (more ∷ others) errors h =
    by (bytes_eq more.0 key) refl h (λ rest. with_errors-has key others (with_error more.0 more.1 errors) rest)
  where
    by : (b : Bool) → bytes_eq more.0 key ≡ b → (bytes_eq more.0 key || has_error key others) ≡ true
        → (has_error key others ≡ true → has_error key (with_errors others (with_error more.0 more.1 errors)) ≡ true)
        → has_error key (with_errors others (with_error more.0 more.1 errors)) ≡ true
    by true is h more_has =
        others-kept key others (with_error more.0 more.1 errors)
        (subst (λ k. has_error k (with_error more.0 more.1 errors) ≡ true) ((bytes_eq-Decides more.0 key).0 is)
        (with_error-has more.0 more.1 errors))
    by false is h more_has = more_has (sym (ap (λ t. t || has_error key others) is) ∙ h)
