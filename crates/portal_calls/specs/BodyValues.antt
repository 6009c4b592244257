-- The values at a body's keys, or their defaults.
use Rattle.std.specs.Prelude.{ℕ, ℤ, ◌-◌, ◌^◌, min, Bool, List, [], Option, Some, None, Result, Ok, Err}
use Rattle.portal_base.specs.KeyErrors.{found_value}
use Rattle.portal_base.specs.Kinds.{count_at, dictionary_at, text_at, texts_at, truth_at, whole_at}
use Rattle.portal_base.specs.declared.json_value.Json.{Json}
use Rattle.portal_base.specs.declared.json_value.Json as json
use Rattle.portal_base.specs.declared.kinds.KindFault.{KindFault}

-- the value at a key, where it is there and of its kind, else the default
abbrev pub value_or : {A : Type 0} → A → Result (Option A) KindFault → A
value_or default (Ok (Some value)) = value
value_or default (Ok None) = default
value_or default (Err fault) = default

-- No body that is read as JSON has a larger count than the last of a u64.
abbrev pub count_or : ℕ → List ℕ → Json → ℕ
count_or default key body = min (value_or default (count_at key body)) (2 ^ 64 - 1)

abbrev pub whole_or : ℤ → List ℕ → Json → ℤ
whole_or default key body = value_or default (whole_at key body)

abbrev pub truth_or : Bool → List ℕ → Json → Bool
truth_or default key body = value_or default (truth_at key body)

abbrev pub text_or : List ℕ → List ℕ → Json → List ℕ
text_or default key body = value_or default (text_at key body)

abbrev pub texts_or_none : List ℕ → Json → Option (List (List ℕ))
texts_or_none key body = found_value (texts_at key body)

abbrev pub dictionary_or_empty : List ℕ → Json → Json
dictionary_or_empty key body = json.Map (value_or [] (dictionary_at key body))
