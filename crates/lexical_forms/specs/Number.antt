-- The texts of whole numbers and of numbers (Table Schema v1, "integer" and "number"), as lists of characters.
use Rattle.std.specs.Prelude.{ℕ, suc, ◌*◌, ◌/◌, ◌%◌, ◌^◌, ◌==◌, nat_lt, Bool, true, false, ◌&&◌, ◌||◌, not}
use Rattle.std.specs.Prelude.{if◌then◌else◌, List, [], ◌∷◌, ◌++◌, length, filter, Option, Some, None, option_map}
use Rattle.std.specs.Prelude.{option_and_then, unwrap_or, ℤ, pos, negsuc, ◌+ℤ◌, ◌-ℤ◌}
use Rattle.std.specs.List.{list_all}
use Rattle.lexical_forms.specs.declared.form.NumberForm.{NumberForm}
use Rattle.lexical_forms.specs.Digits.{is_digit, is_sign, is_digits, is_empty, spelled, is_negative, unsigned, signed}
use Rattle.lexical_forms.specs.Digits.{from_first, until_last}

-- the character is the given one, if one is given
abbrev pub is_same_character : Option ℕ → ℕ → Bool
is_same_character None c = false
is_same_character (Some expected) c = c == expected

-- ---- the characters around a number

-- a digit, a sign or the character before a fraction
abbrev pub begins_number : Option ℕ → ℕ → Bool
begins_number decimal c = is_digit c || is_sign c || is_same_character decimal c

-- The part of a text that is read: all of it if `bareNumber` is true, and otherwise the text without the characters
-- before the number and after its last digit.
abbrev pub numeric_part : Bool → Option ℕ → List ℕ → List ℕ
numeric_part true decimal cs = cs
numeric_part false decimal cs = until_last is_digit (from_first (begins_number decimal) cs)

-- ---- whole numbers

-- from -2^63 to 2^63 - 1
abbrev pub is_i64 : ℤ → Bool
is_i64 (pos n) = nat_lt n (2 ^ 63)
is_i64 (negsuc n) = nat_lt n (2 ^ 63)

abbrev pub i64_only : ℤ → Option ℤ
i64_only z = if is_i64 z then Some z else None

-- The number of an optional sign and digits, if it has 64 bits.
unfoldable pub integer_text_reading : List ℕ → Option ℤ
integer_text_reading cs =
    if is_digits (unsigned cs) then i64_only (signed (is_negative cs) (spelled (unsigned cs))) else None

abbrev pub integer_reading : Bool → List ℕ → Option ℤ
integer_reading bare cs = integer_text_reading (numeric_part bare None cs)

-- ---- numbers

-- the characters before the first one that passes the test, and those after it if there is one
abbrev pub split_at_first : (ℕ → Bool) → List ℕ → List ℕ × Option (List ℕ)
split_at_first passes [] = ([], None)
split_at_first passes (c ∷ cs) =
    if passes c then ([], Some cs) else (c ∷ (split_at_first passes cs).0, (split_at_first passes cs).1)

-- `e` or `E`
abbrev pub is_exponent_mark : ℕ → Bool
is_exponent_mark c = (c == 101) || (c == 69)

-- The character is the decimal point. A digit or an exponent mark never is (no descriptor gives one as `decimalChar`).
abbrev pub is_point : NumberForm → ℕ → Bool
is_point form c = (c == form.decimal) && not (is_digit c) && not (is_exponent_mark c)

-- The parts of a number without its sign: `1,234.5e-6` has the whole part `1,234`, the fraction `5` and the
-- exponent `-6`.
pub record Parts : Type 0 where
  pub whole : List ℕ
  pub fraction : List ℕ
  pub exponent : Option (List ℕ)

abbrev pub parts_of : NumberForm → List ℕ → Parts
parts_of form cs =
    let at_exponent = split_at_first is_exponent_mark cs in
    let at_point = split_at_first (is_point form) at_exponent.0 in
    record { whole = at_point.0; fraction = unwrap_or at_point.1 []; exponent = at_exponent.1 }

abbrev pub begins_with_digit : List ℕ → Bool
begins_with_digit [] = false
begins_with_digit (c ∷ cs) = is_digit c

-- Each character is a digit, or it is the group character between two digits. `after_digit` says whether a digit comes
-- before the first character.
abbrev pub is_grouped : Option ℕ → Bool → List ℕ → Bool
is_grouped group after_digit [] = true
is_grouped group after_digit (c ∷ cs) =
    if is_digit c then is_grouped group true cs
    else is_same_character group c && after_digit && begins_with_digit cs && is_grouped group false cs

-- the digits before the exponent, from the first to the last
abbrev pub digits_of : Parts → List ℕ
digits_of parts = filter is_digit parts.whole ++ parts.fraction

-- nothing, or an optional sign and digits
abbrev pub is_exponent : Option (List ℕ) → Bool
is_exponent None = true
is_exponent (Some cs) = is_digits (unsigned cs)

abbrev pub exponent_of : Option (List ℕ) → ℤ
exponent_of None = pos 0
exponent_of (Some cs) = signed (is_negative cs) (spelled (unsigned cs))

abbrev pub is_number : NumberForm → Parts → Bool
is_number form parts =
    is_grouped form.group false parts.whole && list_all is_digit parts.fraction
    && not (is_empty (digits_of parts)) && is_exponent parts.exponent

-- the value times ten to a power, if that is a whole number
abbrev pub scaled : ℕ → ℤ → Option ℕ
scaled value (pos up) = Some (value * 10 ^ up)
scaled value (negsuc down) =
    if value % 10 ^ suc down == 0 then Some (value / 10 ^ suc down) else None

-- below 10^27, so that a number has at most 18 digits before its point
abbrev pub in_range : ℕ → Option ℕ
in_range billionths = if nat_lt billionths (10 ^ 27) then Some billionths else None

-- The magnitude in billionths: the digits as one whole number, scaled by the exponent, by a billion, and by the count
-- of decimal places.
abbrev pub billionths_of : Parts → Option ℕ
billionths_of parts =
    option_and_then in_range
    (scaled (spelled (digits_of parts)) (pos 9 +ℤ exponent_of parts.exponent -ℤ pos (length parts.fraction)))

abbrev pub unsigned_reading : NumberForm → Parts → Option ℕ
unsigned_reading form parts = if is_number form parts then billionths_of parts else None

unfoldable pub number_text_reading : NumberForm → List ℕ → Option ℤ
number_text_reading form cs = option_map (signed (is_negative cs)) (unsigned_reading form (parts_of form (unsigned cs)))

-- the number that a text reads as, in billionths
abbrev pub number_reading : NumberForm → List ℕ → Option ℤ
number_reading form cs = number_text_reading form (numeric_part form.bare (Some form.decimal) cs)

-- `decimalChar` is `.`, there is no `groupChar`, and `bareNumber` is true
abbrev pub default_spelling : NumberForm
default_spelling = record { decimal = 46; group = None; bare = true }
