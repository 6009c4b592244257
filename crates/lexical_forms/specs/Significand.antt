-- The state of a number that is read from left to right, and what each step of reading does to it.
use Rattle.std.specs.Prelude.{◌≡◌, ◌⊎◌, ◌≤◌, ◌<◌, ℕ, ◌*◌, ◌%◌, ◌^◌, min, Bool, true, false, ◌&&◌, ◌||◌, if◌then◌else◌}
use Rattle.std.specs.Prelude.{List, [], ◌∷◌, ◌++◌, length, filter, Option, Some, None, ℤ, pos, neg_ℤ, ◌≤ℤ◌}
use Rattle.std.specs.List.{list_all}
use Rattle.lexical_forms.specs.declared.number.significand.Significand.{Significand}
use Rattle.lexical_forms.specs.Digits.{is_digit, is_digits, spelled, unsigned, from_first}
use Rattle.lexical_forms.specs.declared.form.NumberForm.{NumberForm}
use Rattle.lexical_forms.specs.Number.{split_at_first, is_point, is_grouped, is_exponent_mark, exponent_of}

-- The value has no trailing zero, unless it is 0.
abbrev pub IsTrimmed : Significand → Type 0
IsTrimmed digits = ((digits.value ≡ 0) × (digits.zeros ≡ 0)) ⊎ (0 < digits.value % 10)

-- The significand holds these digits: they spell its value followed by its zeros.
pub record Spells (digits : Significand) (cs : List ℕ) : Type 0 where
  pub number : spelled cs ≡ digits.value * 10 ^ digits.zeros
  pub small : digits.value < 10 ^ 27
  pub trimmed : IsTrimmed digits
  pub counted : digits.count ≡ length cs
  pub few : digits.zeros ≤ digits.count

-- The number that the digits spell isn't a number below 10^27 followed by zeros.
abbrev pub IsLong : List ℕ → Type 0
IsLong cs = (value zeros : ℕ) → spelled cs ≡ value * 10 ^ zeros → 10 ^ 27 ≤ value

-- It holds the digits of some text.
abbrev pub IsRead : Significand → Type 0
IsRead digits = (cs : List ℕ) × Spells digits cs

-- Appends these digits. The result is none if the number gets too long.
abbrev pub Adds : Significand → List ℕ → Option Significand → Type 0
Adds before new None = (cs : List ℕ) → Spells before cs → IsLong (cs ++ new)
Adds before new (Some digits) = (cs : List ℕ) → Spells before cs → Spells digits (cs ++ new)

-- ---- the parts of a number, from the left

-- the end of the whole part
abbrev pub ends_whole_part : NumberForm → ℕ → Bool
ends_whole_part form c = is_point form c || is_exponent_mark c

abbrev pub whole_in : NumberForm → List ℕ → List ℕ
whole_in form text = (split_at_first (ends_whole_part form) text).0

-- Reads the whole part at the start of a text, and leaves the text after it. The result is none if the text doesn't
-- start with a whole part or if the whole part is too long.
abbrev pub TakesWhole : NumberForm → List ℕ → Option (Significand × List ℕ) → Type 0
TakesWhole form text None =
    (is_grouped form.group false (whole_in form text) ≡ false) ⊎ IsLong (filter is_digit (whole_in form text))
TakesWhole form text (Some taken) =
    (is_grouped form.group false (whole_in form text) ≡ true) × Spells taken.0 (filter is_digit (whole_in form text))
    × (taken.1 ≡ from_first (ends_whole_part form) text)

-- Appends the decimal places at the start of a text, up to its exponent, to the digits before them.
abbrev pub Takes : Significand → List ℕ → List ℕ → Option (Significand × List ℕ) → Type 0
Takes before places rest None = (list_all is_digit places ≡ false) ⊎ Adds before places None
Takes before places rest (Some taken) =
    (list_all is_digit places ≡ true) × Adds before places (Some taken.0) × (taken.1 ≡ rest)

abbrev pub TakesDigits : Significand → List ℕ → Option (Significand × List ℕ) → Type 0
TakesDigits before text = Takes before (split_at_first is_exponent_mark text).0 (from_first is_exponent_mark text)

-- the digits of the fraction of a text that starts after the whole part
abbrev pub fraction_in : NumberForm → List ℕ → List ℕ
fraction_in form [] = []
fraction_in form (c ∷ cs) = if is_point form c then (split_at_first is_exponent_mark cs).0 else []

-- the text after the fraction
abbrev pub after_fraction : NumberForm → List ℕ → List ℕ
after_fraction form [] = []
after_fraction form (c ∷ cs) = if is_point form c then from_first is_exponent_mark cs else c ∷ cs

abbrev pub TakesFraction : NumberForm → Significand → List ℕ → Option (Significand × List ℕ) → Type 0
TakesFraction form before text = Takes before (fraction_in form text) (after_fraction form text)

-- ---- numbers of any size in a bounded type

-- the number that the text spells, if the text is digits and the number is below 2^64
abbrev pub IsDigitsValue : List ℕ → Option ℕ → Type 0
IsDigitsValue cs None = (is_digits cs ≡ false) ⊎ (2 ^ 64 ≤ spelled cs)
IsDigitsValue cs (Some n) = (is_digits cs ≡ true) × (spelled cs ≡ n)

-- above every count of characters
abbrev pub exponent_limit : ℕ
exponent_limit = 2 ^ 100

-- the smaller of the limit and the number that the text spells, if the text is digits
abbrev pub IsLimitedValue : List ℕ → Option ℕ → Type 0
IsLimitedValue cs None = is_digits cs ≡ false
IsLimitedValue cs (Some n) = (is_digits cs ≡ true) × (n ≡ min exponent_limit (spelled cs))

-- nothing, or an exponent mark, an optional sign and digits
abbrev pub is_exponent_text : List ℕ → Bool
is_exponent_text [] = true
is_exponent_text (c ∷ cs) = is_exponent_mark c && is_digits (unsigned cs)

abbrev pub exponent_in : List ℕ → ℤ
exponent_in [] = pos 0
exponent_in (c ∷ cs) = exponent_of (Some cs)

-- the exponent, or the limit if the exponent is beyond it
abbrev pub IsLimited : ℤ → ℤ → Type 0
IsLimited exponent limited =
    (limited ≡ exponent)
    ⊎ (((pos exponent_limit ≤ℤ exponent) × (limited ≡ pos exponent_limit))
    ⊎ ((exponent ≤ℤ neg_ℤ (pos exponent_limit)) × (limited ≡ neg_ℤ (pos exponent_limit))))

abbrev pub IsInLimits : ℤ → Type 0
IsInLimits limited = (neg_ℤ (pos exponent_limit) ≤ℤ limited) × (limited ≤ℤ pos exponent_limit)

abbrev pub IsExponentOf : List ℕ → Option ℤ → Type 0
IsExponentOf text None = is_exponent_text text ≡ false
IsExponentOf text (Some limited) =
    (is_exponent_text text ≡ true) × IsInLimits limited × IsLimited (exponent_in text) limited
