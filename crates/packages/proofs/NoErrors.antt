-- What follows if there are no errors.
use Rattle.std.proofs.Common.{◌≡◌, ℕ, Bool, true, false, cond, List, [], ◌∷◌, refl, Option, Some, None}
use Rattle.std.specs.Prelude.{option_map}
use Rattle.std.specs.List.{AllByRecursion}
use Rattle.std.specs.Ordering.{is_lt}
use Rattle.portal_base.specs.KeyErrors.{KeyError, with_rule_errors, key_error_cmp, has_error, with_error, error_if}
use Rattle.portal_base.specs.Ordered.{IsAscending, inserted}
use Rattle.portal_base.proofs.KeyErrorLemmas.{with_error-ascending}
use Rattle.packages.specs.Errors.{message_unless, or_error}

-- a list with an error isn't empty
with_error-some : (key message : List ℕ) (faults : List KeyError) → with_error key message faults ≡ [] → ⊥
with_error-some key message [] e = cc
with_error-some key message (f ∷ fs) e = by (has_error key (f ∷ fs)) (is_lt (key_error_cmp f (key, message))) e
  where
    by : (b c : Bool)
        → cond b (f ∷ fs) (cond c (f ∷ inserted key_error_cmp (key, message) fs) ((key, message) ∷ f ∷ fs)) ≡ [] → ⊥
    by true c e = cc
    by false true e = cc
    by false false e = cc

error_if-none : (key : List ℕ) (error : Option (List ℕ)) (faults : List KeyError) → error_if key error faults ≡ []
    → (faults ≡ []) × (error ≡ None)
error_if-none key None faults e = (e, refl)
error_if-none key (Some message) faults e = absurd (with_error-some key message faults e)

-- If the list of errors stays empty, no key has an error.
pub with_rule_errors-none : (rules : List (List ℕ × Option (List ℕ))) (faults : List KeyError) → with_rule_errors rules faults ≡ []
    → (faults ≡ []) × AllByRecursion (λ rule. rule.1 ≡ None) rules
with_rule_errors-none [] faults e = (e, tt)
with_rule_errors-none (rule ∷ rules) faults e =
    let rest = with_rule_errors-none rules (error_if rule.0 rule.1 faults) e in
    let first = error_if-none rule.0 rule.1 faults rest.0 in
    (first.0, (first.1, rest.1))

-- The list of errors ascends by key.
pub with_rule_errors-ascending : (rules : List (List ℕ × Option (List ℕ))) (faults : List KeyError)
    → IsAscending key_error_cmp faults
    → IsAscending key_error_cmp (with_rule_errors rules faults)
with_rule_errors-ascending [] faults up = up
with_rule_errors-ascending (rule ∷ rules) faults up =
    with_rule_errors-ascending rules (error_if rule.0 rule.1 faults) (by rule.1)
  where
    into : (message : List ℕ) (b : Bool) → has_error rule.0 faults ≡ b
        → IsAscending key_error_cmp (cond b faults (inserted key_error_cmp (rule.0, message) faults))
    into message true is = up
    into message false is = with_error-ascending rule.0 message faults up is

    by : (error : Option (List ℕ)) → IsAscending key_error_cmp (error_if rule.0 error faults)
    by None = up
    by (Some message) = into message (has_error rule.0 faults) refl

-- If there is no first error, there is neither of the two.
pub or_error-none : (first second : Option (List ℕ)) → or_error first second ≡ None → (first ≡ None) × (second ≡ None)
or_error-none None second e = (refl, e)
or_error-none (Some message) second e = absurd (cc)

-- A rule without an error holds.
pub message_unless-none : (holds : Bool) (message : List ℕ) → message_unless holds message ≡ None → holds ≡ true
message_unless-none true message e = refl
message_unless-none false message e = absurd (cc)

-- If a map of an option gives none, the option is none.
pub option_map-none : {X Y : Type 0} (f : X → Y) (found : Option X) → option_map f found ≡ None → found ≡ None
option_map-none f None e = refl
option_map-none f (Some x) e = absurd (cc)
