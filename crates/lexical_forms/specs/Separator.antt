-- The characters that may be `decimalChar` or `groupChar` (Table Schema v1, "number").
use Rattle.std.specs.Prelude.{ℕ, Bool, ◌&&◌, not, if◌then◌else◌, List, [], ◌∷◌, Option, Some, None}
use Rattle.std.specs.Str.{all_scalars}
use Rattle.lexical_forms.specs.Digits.{is_digit, is_sign}
use Rattle.lexical_forms.specs.Number.{is_exponent_mark}

-- a character (a Unicode scalar value) that is no digit, no sign and neither `e` nor `E`
abbrev pub is_separator : ℕ → Bool
is_separator c = all_scalars (c ∷ []) && not (is_digit c) && not (is_sign c) && not (is_exponent_mark c)

-- the separator that the text consists of, if it is one
abbrev pub separator_of : List ℕ → Option ℕ
separator_of [] = None
separator_of (c ∷ []) = if is_separator c then Some c else None
separator_of (c ∷ d ∷ cs) = None
