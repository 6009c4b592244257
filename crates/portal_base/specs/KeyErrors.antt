-- The errors of a body: each key that breaks a rule, with one message. They ascend by key.
use Rattle.std.specs.Prelude.{ℕ, List, [], ◌∷◌, Bool, Option, Some, None, cond, Result, Ok, Err}
use Rattle.std.specs.declared.cmp.Ordering.{Ordering}
use Rattle.std.specs.Ordering.{nat_cmp}
use Rattle.std.specs.Cmp.{IsTotalOrder}
use Rattle.std.specs.Cmp.Lexicographic.{slice_cmp}
use Rattle.std.specs.List.{list_any}
use Rattle.std.specs.Str.{bytes_eq}
use Rattle.std.proofs.lemmas.Cmp.{on_total, nat_list_cmp_total}
use Rattle.portal_base.specs.Ordered.{inserted}
use Rattle.portal_base.specs.Kinds.{message_of}
use Rattle.portal_base.specs.declared.kinds.KindFault.{KindFault}

-- a key and its message
abbrev pub KeyError : Type 0
KeyError = List ℕ × List ℕ

-- the order by key
abbrev pub key_error_cmp : KeyError → KeyError → Ordering
key_error_cmp x y = slice_cmp nat_cmp x.0 y.0

pub key_error_cmp_total : IsTotalOrder key_error_cmp
key_error_cmp_total = on_total (λ error. error.0) nat_list_cmp_total

-- the key has an error
abbrev pub has_error : List ℕ → List KeyError → Bool
has_error key errors = list_any (λ error. bytes_eq error.0 key) errors

-- the errors with one more, unless the key has one
abbrev pub with_error : List ℕ → List ℕ → List KeyError → List KeyError
with_error key message errors = cond (has_error key errors) errors (inserted key_error_cmp (key, message) errors)

-- the errors with the message of a key, if there is one
abbrev pub error_if : List ℕ → Option (List ℕ) → List KeyError → List KeyError
error_if key None errors = errors
error_if key (Some message) errors = with_error key message errors

-- the errors with those of rules in order; a rule has a key, and a message if it is broken
abbrev pub with_rule_errors : List (List ℕ × Option (List ℕ)) → List KeyError → List KeyError
with_rule_errors [] errors = errors
with_rule_errors (rule ∷ rules) errors = with_rule_errors rules (error_if rule.0 rule.1 errors)

-- the errors with these others
abbrev pub with_errors : List KeyError → List KeyError → List KeyError
with_errors [] errors = errors
with_errors (more ∷ others) errors = with_errors others (with_error more.0 more.1 errors)

-- the message for a value that was read by its kind, if it has a fault
abbrev pub kind_message : {A : Type 0} → Result A KindFault → Option (List ℕ)
kind_message (Ok value) = None
kind_message (Err fault) = Some (message_of fault)

-- what was read
abbrev pub read_value : {A : Type 0} → Result A KindFault → Option A
read_value (Ok value) = Some value
read_value (Err fault) = None

-- what was read, where the key may be absent
abbrev pub found_value : {A : Type 0} → Result (Option A) KindFault → Option A
found_value (Ok found) = found
found_value (Err fault) = None

-- the error of a required text: its fault, or the message of its rules
abbrev pub text_error : (List ℕ → Option (List ℕ)) → Result (List ℕ) KindFault → Option (List ℕ)
text_error rules (Ok text) = rules text
text_error rules (Err fault) = Some (message_of fault)
